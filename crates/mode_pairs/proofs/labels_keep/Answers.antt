-- `mode_pairs::labels_keep` meets its contract.
-- Assumes nothing.
use Prim.Native.Nat.{ℕ}
use mathlib.Core.Path.{ap, ap₂, ◌∙◌}
use mathlib.Core.Bool.{not, ◌&&◌}
use lib.Bits.{bit_and}
use lib.Dec.{eqb}
use Rattle.model.specs.Tests.{implies}
use Rattle.model.specs.ModePairs.{entry, kept}
use Rattle.mode_pairs.proofs.Table.{coded-wanted, coded-held}
use Rattle.mode_pairs.proofs.labels_keep.Goals as goal

pub returns : goal.returns
unfolding kept
returns c = let start = c.args in
    let asked = c.entry-asked.ensures in
    ap₂ ◌&&◌
    (c.implies-wanted.ensures
    ∙ ap₂ implies (ap (λ (n : ℕ). not (eqb (bit_and n 1) 0)) asked ∙ coded-wanted (entry start.x start.y)) c.dominates.ensures)
    (c.implies-held.ensures
    ∙ ap₂ implies (ap (λ (n : ℕ). not (eqb (bit_and n 2) 0)) asked ∙ coded-held (entry start.x start.y)) c.dominates-2.ensures)
