-- Rehearsal of a plant (change request §12): rounds, and how a rehearsal goes, without a bound on its rounds.
pub mod Rounds
pub mod Course
