-- `replay::replay` meets its contract.
-- Assumes nothing.
use mathlib.Core.Path.{refl, sym, ap, ◌∙◌}
use Rattle.std.specs.Prelude.{Err}
use Rattle.std.proofs.lemmas.Result.{err_from_is_err_and}
use Rattle.model.specs.Decisions.{checked}
use Rattle.model.proofs.Checked.{refusal, passes}
use Rattle.image.proofs.Sizes.{table-begun}
use Rattle.replay.proofs.Answers.{table-refused, no_room, room}
use Rattle.replay.proofs.replay.Goals as goal

pub returns-in_err-start_widest : goal.returns-in_err-start_widest
returns-in_err-start_widest c =
    let p = err_from_is_err_and c.from_residual.result c.from_residual.ensures.1 in
    let refused = sym c.start_widest.ensures.0 ∙ c.in_err-start_widest.was in
    let r = table-refused _ _ _ _ (table-begun _ _ _ _ refl c.start_widest.ensures.1) (refusal _ _ refused).0 in
    (p.1 ∙ ap Err p.2 ∙ sym refused ∙ ap checked r.0, r.1)

pub returns-then-out-piece_count : goal.returns-then-out-piece_count
unfolding checked
returns-then-out-piece_count c =
    let passed = passes _ (sym c.start_widest.ensures.0 ∙ c.in_ok-start_widest.was) in
    let r = no_room _ _ _ _ (table-begun _ _ _ _ refl c.start_widest.ensures.1) passed _ c.piece_count.ensures c.if-out-piece_count.true in
    (ap checked r.0, r.1)

pub returns : goal.returns
unfolding checked
returns c =
    let passed = passes _ (sym c.start_widest.ensures.0 ∙ c.in_ok-start_widest.was) in
    let r = room _ _ _ _ (table-begun _ _ _ _ refl c.start_widest.ensures.1) passed _ c.piece_count.ensures c.if-out-piece_count.false _ c.run.ensures.written in
    (ap checked r.0, r.1)
