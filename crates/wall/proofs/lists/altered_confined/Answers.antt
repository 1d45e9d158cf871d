-- `wall::lists::altered_confined` meets its contract.
-- Assumes nothing.
use Rattle.std.proofs.Common.{ℕ, arith, refl, sym, ap, ap₂, ◌≡◌, ◌∙◌, ◌&&◌, length}
use native.Mathlib.Numerals.{add-one}
use Rattle.model.specs.Tests.{implies}
use Rattle.model.specs.Companies.{confined}
use Rattle.model.specs.Modes.{any_alters}
use Rattle.model.specs.State.{object_at}
use Rattle.unit.specs.Rows.{objects_in}
use Rattle.wall.specs.Joined.{confined_to}
use Rattle.wall.specs.Lists.{numbers_at, altered_at}
use Rattle.wall.proofs.lists.altered_confined.Goals as goal

pub loop-o-init : goal.loop-o-init
unfolding confined_to
loop-o-init c = refl

pub loop-o-preserved : goal.loop-o-preserved
unfolding confined_to
loop-o-preserved c = let at = object_at (objects_in c.args.unit.now) in
    let list = c.args.list.now in
    let alters = c.any_alters-alters.ensures ∙ ap any_alters c.held_by.ensures in
    let confines = c.confined.ensures ∙ ap (confined c.args.read) c.companies_of.ensures in
    ap₂ ◌&&◌ c.loop-o.invariant (c.implies-kept.ensures ∙ ap₂ implies alters confines)
    ∙ ap (λ (k : ℕ). confined_to k (altered_at c.args.s at list) c.args.read (numbers_at at list)) (sym (add-one c.loop-o.o-index))

pub returns : goal.returns
returns c = let at = object_at (objects_in c.args.unit.now) in
    let list = c.args.list.now in
    let end : c.loop-o.o-index ≡ length list = omega (arith, c.loop-o-test.false, c.loop-o.auto.o-index-end) in
    c.loop-o.invariant ∙ ap (λ (k : ℕ). confined_to k (altered_at c.args.s at list) c.args.read (numbers_at at list)) end
