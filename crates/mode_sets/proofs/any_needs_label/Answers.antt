-- `mode_sets::any_needs_label` meets its contract.
-- Assumes nothing.
use native.Mathlib.Omega.{arith}
use Rattle.mode_sets.proofs.Sets.{needs-label-and}
use Rattle.mode_sets.proofs.any_needs_label.Goals as goal

pub returns : goal.returns
returns c = needs-label-and c.args.n (omega arith)
