-- The theorems, in the order in which they stand on each other.
pub mod ByteOrders
pub mod Commuting
pub mod Updates
pub mod Accesses
pub mod PairProperties
pub mod Gets
pub mod Together
pub mod Disagree
pub mod TwoGets
pub mod StartOrder
pub mod Owners
pub mod RightsLists
pub mod RightsLeft
pub mod RightsAgain
