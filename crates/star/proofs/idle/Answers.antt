-- `star::idle` meets its contract.
-- Assumes nothing.
use Prim.Native.Nat.{◌+◌, min}
use mathlib.Core.Path.{sym, ap, ◌∙◌}
use mathlib.Core.Bool.{not}
use lib.Dec.{eqb}
use borrow.Author.Tests.{eq-eqb, ne_eqb}
use Rattle.model.proofs.Tests.{cond-true, cond-false}
use Rattle.model.specs.Modes.{any_needs_label}
use Rattle.model.specs.State.{object}
use Rattle.unit.specs.Rows.{state_in}
use Rattle.star.specs.Idle.{free, nothing_held, idle}
use Rattle.star.proofs.idle.Goals as goal

pub returns-then-first-end : goal.returns-then-first-end
unfolding idle
returns-then-first-end c = let a = c.args in
    let row = (object (state_in a.unit.now) a.o).held in
    let first = c.min-first.ensures in
    ap not (c.table_asks.ensures ∙ ap any_needs_label c.held_by.ensures) ∙ ap (free row) first
    ∙ sym (cond-true (eqb (min a.low 15 + 1) a.end) _ _ (eq-eqb _ _ (ap (λ k. k + 1) (sym first) ∙ c.if-first-end.true)))

pub returns-else-first-end : goal.returns-else-first-end
unfolding idle
returns-else-first-end c = let a = c.args in
    let first = c.min-first.ensures in
    c.nothing_held.ensures ∙ ap nothing_held c.held_row.ensures
    ∙ sym (cond-false (eqb (min a.low 15 + 1) a.end) _ _ (ne_eqb _ _ (λ e. c.if-first-end.false (ap (λ k. k + 1) first ∙ e))))
