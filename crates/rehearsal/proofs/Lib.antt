-- Theorems on rehearsals.
pub mod Turns
pub mod Ending
pub mod Actors
