-- The test load: its draws, its requests and the buffer that they fill.
pub mod States
pub mod Rows
pub mod Fields
pub mod Draws
pub mod Filling
pub mod WellFormed
pub mod Loads
pub mod Examples
