-- What a deletion leaves of the rows of a unit, and parents by their numbers.
pub mod Removed
pub mod Parents
