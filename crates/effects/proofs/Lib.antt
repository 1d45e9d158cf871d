-- Demand 2: security, exact replies, gets, effects and frames, in the order in which the files stand on each other.
pub mod Replies
pub mod Gets
pub mod Frames
pub mod Lives
pub mod Labels
pub mod Companies
pub mod Effects
pub mod Determined
pub mod Demand2
