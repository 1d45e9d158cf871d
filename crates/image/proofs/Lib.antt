-- The answers of the readers, and the sizes of the monitors that they begin.
pub mod Sizes
pub mod Answers
