-- `checking::findings_of` meets its contract.
-- Assumes nothing.
use Prim.Native.Nat.{ℕ, ◌+◌}
use native.Mathlib.Omega.{arith}
use mathlib.Core.Path.{◌≡◌, ap, ap₂, ◌∙◌}
use mathlib.Core.Bool.{Bool}
use Rattle.model.specs.Tests.{implies}
use Rattle.model.specs.Levels.{present}
use Rattle.model.specs.State.{clearance_at}
use Rattle.model.specs.Rules.{simple_all}
use Rattle.model.specs.Reading.{only_enrolled, within_matrix, held_labelled}
use Rattle.unit.specs.Rows.{subjects_in}
use Rattle.checking.specs.Checks.{both}
use Rattle.checking.proofs.Passes.{below, below_more, both-assoc}
use Rattle.checking.proofs.findings_of.Goals as goal
use Rattle.checking.proofs.findings_of.Invariants.{begins, at_subject}

pub loop-s-preserved : goal.loop-s-preserved
loop-s-preserved c = let loop = c.loop-s in
    let f = at_subject c.args.unit.now c.args.o in
    let first = begins c.implies-owned.result in
    let here : c.findings_at-here.result ≡ f loop.s = rw (c.findings_at-here.ensures, c.held_by.ensures, c.rights_of.ensures, c.clearance_of.ensures, c.label_of-label.ensures) in
    let more : _ ≡ both first (below (loop.s + 1) f) =
    c.both-found.ensures ∙ ap₂ both loop.invariant.1 here ∙ both-assoc first (below loop.s f) (f loop.s) ∙ ap (both first) (below_more loop.s f) in
    (omega (arith, c.loop-s-test.true), more)

pub returns : goal.returns
unfolding only_enrolled within_matrix held_labelled simple_all
returns c = let loop = c.loop-s in
    let u = c.args.unit.now in
    let f = at_subject u c.args.o in
    let end : loop.s ≡ 16 = omega (arith, c.loop-s-test.false, loop.invariant.0) in
    let owned = c.implies-owned.ensures ∙ ap₂ implies c.is_live.ensures (c.is_known.ensures ∙ ap (λ k. present (clearance_at (subjects_in u) k)) c.owner_of.ensures) in
    loop.invariant.1 ∙ ap (λ (n : ℕ). both (begins c.implies-owned.result) (below n f)) end ∙ ap (λ (b : Bool). both (begins b) (below 16 f)) owned
