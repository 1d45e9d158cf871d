-- What every request keeps: a state that is well formed, inside its profile, secure and with its objects under each other, in the order in which the files stand on each other.
pub mod Granted
pub mod Form
pub mod Inside
pub mod Pairs
pub mod Secure
pub mod Star
pub mod Wall
pub mod Hierarchy
pub mod Relabelling
pub mod Steps
pub mod Outcomes
pub mod Added
pub mod WallAdded
pub mod ModePairs
pub mod TakingBack
pub mod RequestsAlone
pub mod Histories
