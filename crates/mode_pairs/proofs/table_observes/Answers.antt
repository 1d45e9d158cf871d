-- `mode_pairs::table_observes` meets its contract.
-- Assumes nothing.
use native.Mathlib.Omega.{arith}
use Rattle.mode_pairs.proofs.Table.{observes-asking}
use Rattle.mode_pairs.proofs.table_observes.Goals as goal

pub returns : goal.returns
returns c = rw c.modes_asking.ensures (observes-asking c.args.n (omega arith))
