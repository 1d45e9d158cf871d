-- The answers at the boundary, and what rows of calls give.
pub mod Told
pub mod Boundary
pub mod Numbers
pub mod Calls
pub mod UnitRuns
pub mod SiteUnits
pub mod Pages
pub mod Comparing
pub mod Counts
pub mod Labels
pub mod StartOrders
pub mod UnitOrders
pub mod TakingBack
pub mod RightsExamples
