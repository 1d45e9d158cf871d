-- The answers of a replay.
pub mod Answers
pub mod Putting
pub mod Printing
