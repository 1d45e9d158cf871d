-- A unit: the rows of a monitor and those of its journal.
pub mod Units
