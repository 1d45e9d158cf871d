-- `mode_sets::has` meets its contract.
-- Assumes nothing.
use native.Mathlib.Omega.{arith}
use Rattle.mode_sets.proofs.Sets.{has-and}
use Rattle.mode_sets.proofs.has.Goals as goal

pub returns : goal.returns
returns c = rw c.weight.ensures (has-and c.args.x c.args.n (omega arith))
