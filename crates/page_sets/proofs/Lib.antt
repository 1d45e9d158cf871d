-- How many modes a set has.
pub mod Counts
