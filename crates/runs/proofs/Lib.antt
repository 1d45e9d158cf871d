-- Whole runs: the marked run, the program, and runs that meet the hypotheses of the theorems, in the order in which the files stand on each other.
pub mod MarkedRun
pub mod Lowering
pub mod Programs
pub mod Witnesses
pub mod ModePairs
pub mod Sites
pub mod TakingBack
pub mod Walls
pub mod Risers
