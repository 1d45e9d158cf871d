-- The rows of a unit go on as the monitor does that they say.
pub mod Lists
pub mod Plain
