-- `mode_pairs::table_asks` meets its contract.
-- Assumes nothing.
use native.Mathlib.Omega.{arith}
use Rattle.mode_pairs.proofs.Table.{asks-asking}
use Rattle.mode_pairs.proofs.table_asks.Goals as goal

pub returns : goal.returns
returns c = rw c.modes_asking.ensures (asks-asking c.args.n (omega arith))
