-- `mode_sets::any_held` meets its contract.
-- Assumes nothing.
use native.Mathlib.Omega.{arith}
use Rattle.mode_sets.proofs.Sets.{held-and}
use Rattle.mode_sets.proofs.any_held.Goals as goal

pub returns : goal.returns
returns c = held-and c.args.n (omega arith)
