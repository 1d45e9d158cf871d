-- `start_order::search::first_other` meets its contract.
-- Assumes nothing.
use mathlib.Core.Path.{sym, ap, ◌∙◌}
use mathlib.Core.Bool.{Bool, not}
use Rattle.std.specs.Prelude.{is_none}
use Rattle.model.specs.Program.{pieces}
use Rattle.start_order.specs.Answers.{Wanted}
use Rattle.start_order.proofs.First.{found_here, found_none}
use Rattle.start_order.proofs.Searching.{is_other, counted}
use Rattle.start_order.proofs.search.first_other.Goals as goal

pub returns-then-is_none : goal.returns-then-is_none
returns-then-is_none c =
    found_here _ _ c.loop-i.i (is_other c.args.p (pieces c.args.requests.now)) (counted c.args.requests.now _ c.piece_count-i-end.ensures) c.loop-i.invariant
    (ap (λ (w : Wanted). is_none w) (sym c.wanted_at.ensures) ∙ ap not c.is_none.ensures ∙ ap (λ (b : Bool). not (not b)) c.if-is_none.true) c.loop-i-test.true

pub returns : goal.returns
returns c = found_none _ _ c.loop-i.i (is_other c.args.p (pieces c.args.requests.now)) (counted c.args.requests.now _ c.piece_count-i-end.ensures) c.loop-i.invariant c.loop-i-test.false
