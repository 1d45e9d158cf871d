-- A monitor as rows of bytes: what rows say, and the rows of a monitor.
pub mod Rows
pub mod Stored
