-- What the functions for C and Rust return and leave.
pub mod Boundary
pub mod SiteAnswers
pub mod Calls
pub mod UnitRuns
pub mod Comparing
pub mod UnitOrders
