-- Parts of the readers' checks.
pub mod Settled
