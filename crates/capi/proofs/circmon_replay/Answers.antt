-- `capi::circmon_replay` meets its contract.
-- Assumes nothing.
use Rattle.capi.proofs.Told.{told-replay}
use Rattle.capi.proofs.circmon_replay.Goals as goal

pub returns : goal.returns
returns c = (told-replay _ _ _ _ _ c.number.ensures c.replay.ensures.0, c.replay.ensures.1)
