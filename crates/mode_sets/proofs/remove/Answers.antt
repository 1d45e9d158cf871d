-- `mode_sets::remove` meets its contract.
-- Assumes nothing.
use native.Mathlib.Omega.{arith}
use Rattle.mode_sets.proofs.Sets.{remove-and}
use Rattle.mode_sets.proofs.remove.Goals as goal

pub returns : goal.returns
returns c = rw c.weight.ensures (remove-and c.args.x c.args.n (omega arith))
