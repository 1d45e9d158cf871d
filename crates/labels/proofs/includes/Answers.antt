-- `labels::includes` meets its contract.
-- Assumes nothing.
use native.Mathlib.Omega.{arith}
use Rattle.labels.proofs.Sets.{subset-and}
use Rattle.labels.proofs.includes.Goals as goal

pub returns : goal.returns
returns c = subset-and 16 c.args.b c.args.a (omega arith)
