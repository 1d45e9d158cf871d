-- The pieces of a row of requests.
pub mod Turns
