-- The rows of a unit: what is read of them, what is stored, and the rows of a whole monitor.
pub mod Tabulated
pub mod Readings
pub mod Stores
pub mod Units
pub mod Plain
pub mod RowExamples
