-- `capi::units::circmon_take_back` meets its contract.
-- Assumes nothing.
use Rattle.capi.proofs.Told.{told-back}
use Rattle.capi.proofs.units.circmon_take_back.Goals as goal

pub returns : goal.returns
returns c = (told-back _ _ _ c.number.ensures c.take_back.ensures.0, c.take_back.ensures.1)
