-- Laws of joined numbers, the wall by them, and over some of the subjects.
pub mod Joined
pub mod Wall
pub mod Between
pub mod Ranges
