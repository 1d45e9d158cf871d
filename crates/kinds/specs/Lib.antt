-- What a request of each kind makes of the rows of a unit.
pub mod Stages
pub mod Carried
