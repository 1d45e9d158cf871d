-- What is kept, a state with one access added, and what is said of takings-back.
pub mod Sound
pub mod Access
pub mod TakingBack
