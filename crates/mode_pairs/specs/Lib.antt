-- The table of mode pairs in numbers.
pub mod Table
