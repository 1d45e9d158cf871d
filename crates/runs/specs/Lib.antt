-- The rows of the marked run, and lists of whole requests.
pub mod MarkedRun
pub mod Inputs
