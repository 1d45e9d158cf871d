-- A run, one turn longer.
pub mod Runs
