-- What was found of a state beside its profile.
pub mod Kept
