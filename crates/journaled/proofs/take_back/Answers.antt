-- `journaled::take_back` meets its contract.
-- Assumes nothing.
use native.Mathlib.Omega.{arith}
use mathlib.Core.Path.{sym, ap, ◌∙◌}
use Rattle.std.proofs.lemmas.Option.{MatchOption-at_some}
use borrow.Author.Tests.{eq-eqb, ne_eqb}
use Rattle.model.specs.Decisions.{checked}
use Rattle.model.proofs.Tests.{cond-true, cond-false}
use Rattle.journal.specs.Ring.{entry_count}
use Rattle.journaled.specs.Units.{said_by, restored_unit, taken_unit}
use Rattle.journaled.proofs.Parts.{put-together}
use Rattle.journaled.proofs.Said.{taken_none, taken-some}
use Rattle.journaled.proofs.take_back.Goals as goal

pub returns-then-entry_count-eq0 : goal.returns-then-entry_count-eq0
unfolding said_by taken_unit checked
returns-then-entry_count-eq0 c =
    let none = ap entry_count (sym c.journal.ensures) ∙ sym c.entry_count.ensures ∙ c.if-entry_count-eq0.true in
    (ap checked (sym (taken_none c.args.unit.now.rows none)), sym (cond-true _ _ _ (eq-eqb _ 0 none)))

pub restore-requires : goal.restore-requires
restore-requires c =
    let first = MatchOption-at_some _ _ _ c.unwrap.ensures c.split_first_chunk_mut.ensures.cases in
    let behind = MatchOption-at_some _ _ _ c.unwrap-2.ensures c.as_mut_array.ensures.cases in
    let same = c.entry_count.ensures ∙ ap entry_count (c.journal.ensures ∙ sym first.1 ∙ sym behind.same) in
    record { nonzero = omega (arith, same, c.if-entry_count-eq0.false) }

pub returns : goal.returns
unfolding said_by taken_unit checked
returns c =
    let first = MatchOption-at_some _ _ _ c.unwrap.ensures c.split_first_chunk_mut.ensures.cases in
    let behind = MatchOption-at_some _ _ _ c.unwrap-2.ensures c.as_mut_array.ensures.cases in
    let whole = put-together c.args.unit.now.rows _ _ _ first.0 first.1 behind.same in
    let same = c.entry_count.ensures ∙ ap entry_count c.journal.ensures in (
      ap checked (sym (taken-some c.args.unit.now.rows (λ e. c.if-entry_count-eq0.false (same ∙ e)))),
      c.restore.ensures ∙ ap restored_unit whole ∙ sym (cond-false _ _ _ (ne_eqb _ 0 (λ e. c.if-entry_count-eq0.false (same ∙ e)))),
    )
