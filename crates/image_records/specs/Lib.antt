-- What the readers of records return.
-- Assumes nothing.
pub mod Records
