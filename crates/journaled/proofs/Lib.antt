-- Laws of a unit with its journal, in the order in which the files stand on each other.
pub mod Parts
pub mod Places
pub mod Said
pub mod Stored
pub mod Plain
pub mod UnitExamples
