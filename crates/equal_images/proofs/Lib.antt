-- Demand 3: images are equal exactly where every further list draws the same replies, in the order in which the files stand on each other.
pub mod Probes
pub mod Under
pub mod Objects
pub mod ObjectProbes
pub mod ParentProbes
pub mod Answers
pub mod Clearances
pub mod Demand3
pub mod ParentsApart
pub mod ToldApart
pub mod OneProfile
pub mod CompaniesApart
pub mod ParentExamples
