-- Laws that the proofs of more than one function use.
-- Assumes nothing.
pub mod Words
pub mod Streams
pub mod Zeros
