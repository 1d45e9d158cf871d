-- Laws that the proofs of more than one function use.
pub mod Searching
pub mod LastFree
pub mod Determined
