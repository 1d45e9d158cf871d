-- The unit that a request leaves.
pub mod Trials
