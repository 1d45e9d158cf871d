-- A test load from a seed: the generator, and the requests made of its draws.
pub mod Generator
pub mod Rows
pub mod Load
pub mod Causes
