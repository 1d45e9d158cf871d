-- The effect of each kind of request.
pub mod Effects
