-- Demand 1: the first refusal in the scope's order, the orders themselves first, then the files as they stand on each other.
pub mod Orders
pub mod First
pub mod Hierarchy
pub mod RequestCauses
pub mod ProfileCauses
pub mod Malformed
pub mod StrayBits
pub mod ImageCauses
pub mod FirstRefusal
pub mod Outside
pub mod ModePairs
pub mod Wall
