-- The star property by lists of objects, and over some of the subjects.
pub mod Pairs
pub mod Listed
pub mod Between
pub mod Ranges
