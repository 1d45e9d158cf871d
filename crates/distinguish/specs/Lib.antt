-- What is returned and left where two states are told apart.
pub mod Telling
