-- `mode_sets::any_alters` meets its contract.
-- Assumes nothing.
use native.Mathlib.Omega.{arith}
use Rattle.mode_sets.proofs.Sets.{alters-and}
use Rattle.mode_sets.proofs.any_alters.Goals as goal

pub returns : goal.returns
returns c = alters-and c.args.n (omega arith)
