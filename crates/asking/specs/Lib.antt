-- Requests as byte strings on the rows of a unit.
pub mod Asked
