-- The answers on two images: one is refused, or they are told apart.
pub mod Answers
