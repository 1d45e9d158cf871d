-- What is read of an input, and what the program prints for it.
pub mod Reading
