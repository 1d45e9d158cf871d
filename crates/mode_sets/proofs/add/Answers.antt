-- `mode_sets::add` meets its contract.
-- Assumes nothing.
use native.Mathlib.Omega.{arith}
use Rattle.mode_sets.proofs.Sets.{add-or}
use Rattle.mode_sets.proofs.add.Goals as goal

pub returns : goal.returns
returns c = rw c.weight.ensures (add-or c.args.x c.args.n (omega arith))
