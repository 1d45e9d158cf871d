-- What the functions of this crate compute on the way to the checks of a state.
-- Assumes nothing.
pub mod Checks
