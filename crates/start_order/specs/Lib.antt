-- The answer for a list of requests, and what its search has found so far.
pub mod First
pub mod Answers
pub mod Tried
pub mod Meaning
