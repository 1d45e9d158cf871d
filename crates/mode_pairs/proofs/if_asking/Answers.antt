-- `mode_pairs::if_asking` meets its contract.
-- Assumes nothing.
use Prim.Native.Nat.{ℕ}
use mathlib.Core.Path.{◌≡◌, sym, ap, ◌∙◌}
use mathlib.Core.Bool.{false}
use lib.Bits.{bit_and}
use lib.Dec.{eqb}
use borrow.Author.Tests.{ne_eqb}
use Rattle.model.specs.Modes.{weight}
use Rattle.model.proofs.Tests.{cond-false}
use Rattle.mode_pairs.specs.Table.{row_asks}
use Rattle.mode_pairs.proofs.Table.{alone}
use Rattle.mode_pairs.proofs.if_asking.Goals as goal

pub returns-then-row_asks-which-ne0 : goal.returns-then-row_asks-which-ne0
returns-then-row_asks-which-ne0 c = let start = c.args in
    let asks : eqb (bit_and (row_asks start.held) start.which) 0 ≡ false =
    ap (λ (n : ℕ). eqb (bit_and n start.which) 0) (sym c.row_asks.ensures) ∙ ne_eqb _ 0 c.if-row_asks-which-ne0.true in
    c.add.ensures ∙ alone start.held ∙ sym (cond-false _ 0 (weight start.held) asks)
