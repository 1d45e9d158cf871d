-- `mode_sets::any_observes` meets its contract.
-- Assumes nothing.
use native.Mathlib.Omega.{arith}
use Rattle.mode_sets.proofs.Sets.{observes-and}
use Rattle.mode_sets.proofs.any_observes.Goals as goal

pub returns : goal.returns
returns c = observes-and c.args.n (omega arith)
