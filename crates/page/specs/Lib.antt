-- The access page of an object as bytes.
pub mod Page
pub mod Printed
pub mod Causes
