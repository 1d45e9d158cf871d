-- `capi::circmon_read` meets its contract.
-- Assumes nothing.
use Rattle.capi.proofs.Told.{told-image}
use Rattle.capi.proofs.circmon_read.Goals as goal

pub returns : goal.returns
returns c = told-image _ _ _ _ c.number.ensures c.open_widest.ensures.0
