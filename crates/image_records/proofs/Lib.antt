-- Laws that the proofs of more than one function use.
-- Assumes nothing.
pub mod Places
pub mod Contents
pub mod Gathering
pub mod Lengths
