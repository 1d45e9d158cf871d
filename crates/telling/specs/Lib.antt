-- The search for requests on which two states reply differently.
pub mod Distinguish
