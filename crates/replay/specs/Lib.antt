-- A whole run from a table.
pub mod Replay
