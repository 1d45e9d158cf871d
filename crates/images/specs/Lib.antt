-- Tables whose clearances fit, and the profile of a beginning; the checks of the scope without a profile.
pub mod Tables
pub mod Base
