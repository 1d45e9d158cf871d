-- The table that the programs over the scope's edges begin with.
pub mod Enrolment
