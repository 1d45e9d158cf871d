-- `start_order::start_order` meets its contract.
-- Assumes nothing.
use mathlib.Core.Path.{sym, ap, ◌∙◌}
use lib.ListN.{length}
use Rattle.model.specs.declared.Profile.{Profile}
use Rattle.model.specs.Program.{pieces}
use Rattle.unit.specs.Rows.{state_in}
use Rattle.start_order.specs.First.{found}
use Rattle.start_order.specs.Answers.{first_other}
use Rattle.start_order.proofs.Searching.{counted, answer-many, answer-other, answer-gets}
use Rattle.start_order.proofs.start_order.Goals as goal

pub returns-then-piece_count-gt-MOST : goal.returns-then-piece_count-gt-MOST
returns-then-piece_count-gt-MOST c = answer-many (state_in c.args.unit.now) (pieces c.args.requests.now) _ (counted c.args.requests.now _ c.piece_count.ensures) c.if-piece_count-gt-MOST.true

pub returns-in-Some : goal.returns-in-Some
returns-in-Some c = let bs = pieces c.args.requests.now in
    answer-other (state_in c.args.unit.now) bs _ (counted c.args.requests.now _ c.piece_count.ensures) c.if-piece_count-gt-MOST.false _
    (sym (c.first_other-other.ensures ∙ ap (λ (p : Profile). found (length bs) (first_other p bs)) c.profile_of-profile.ensures) ∙ c.in-Some.is)

pub returns : goal.returns
returns c = let bs = pieces c.args.requests.now in
    c.first_clash.ensures
    ∙ answer-gets (state_in c.args.unit.now) bs _ (counted c.args.requests.now _ c.piece_count.ensures) c.if-piece_count-gt-MOST.false
    (sym (c.first_other-other.ensures ∙ ap (λ (p : Profile). found (length bs) (first_other p bs)) c.profile_of-profile.ensures) ∙ c.in_default.is)
