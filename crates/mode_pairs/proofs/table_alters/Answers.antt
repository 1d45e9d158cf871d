-- `mode_pairs::table_alters` meets its contract.
-- Assumes nothing.
use native.Mathlib.Omega.{arith}
use Rattle.mode_pairs.proofs.Table.{alters-asking}
use Rattle.mode_pairs.proofs.table_alters.Goals as goal

pub returns : goal.returns
returns c = rw c.modes_asking.ensures (alters-asking c.args.n (omega arith))
