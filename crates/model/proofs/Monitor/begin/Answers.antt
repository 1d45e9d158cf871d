-- `model::Monitor::begin` meets its contract.
-- Assumes nothing.
use mathlib.Core.Path.{refl, ap}
use lib.ListN.{replicate}
use Rattle.model.proofs.Equal.{monitor-ext}
use Rattle.model.proofs.Monitor.begin.Goals as goal

pub returns : goal.returns
returns c = monitor-ext _ _ refl refl (ap (replicate 64) c.no_object.ensures)
