-- `wall::lists::join_numbers` meets its contract.
-- Assumes nothing.
use Rattle.std.proofs.Common.{ℕ, Bool, arith, refl, sym, ap, ap₂, ◌≡◌, ◌∙◌, ◌&&◌, cond, length, Some}
use native.Mathlib.Numerals.{add-one}
use Rattle.model.specs.Companies.{compatible}
use Rattle.model.specs.Modes.{any_observes}
use Rattle.model.specs.State.{object_at}
use Rattle.model.proofs.Tests.{cond-true, cond-false}
use Rattle.unit.specs.Rows.{objects_in}
use Rattle.wall.specs.Joined.{joined, joined_below, every, joins}
use Rattle.wall.specs.Lists.{numbers_at, read_at}
use Rattle.wall.proofs.lists.join_numbers.Goals as goal

pub loop-o-init : goal.loop-o-init
unfolding joins
loop-o-init c = (refl, refl, refl)

pub loop-o-preserved : goal.loop-o-preserved
unfolding joins
loop-o-preserved c = let inv = c.loop-o.invariant in
    let at = object_at (objects_in c.args.unit.now) in
    let list = c.args.list.now in
    let g = numbers_at at list in
    let f = read_at c.args.s at list in
    let numbers = c.companies_of-numbers.ensures in
    let old = c.loop-o.read in
    let i = c.loop-o.o-index in
    let next = sym (add-one i) in
    let reads = c.any_observes.ensures ∙ ap any_observes c.held_by.ensures in (
      ap₂ ◌&&◌ inv.0 (c.compatible-fit.ensures ∙ ap₂ compatible inv.1 numbers) ∙ ap (λ (k : ℕ). joins k g) next,
      c.joined-seen.ensures ∙ ap₂ joined inv.1 numbers ∙ ap (λ (k : ℕ). joined_below k every g) next,
      c.joined_if-read.ensures ∙ ap₂ (λ (t : Bool) (n : ℕ). cond t (joined old n) old) reads numbers
          ∙ ap (λ (r : ℕ). cond (f i) (joined r (g i)) r) inv.2 ∙ ap (λ (k : ℕ). joined_below k f g) next,
    )

pub returns-then-fit : goal.returns-then-fit
returns-then-fit c = let at = object_at (objects_in c.args.unit.now) in
    let list = c.args.list.now in
    let end : c.loop-o.o-index ≡ length list = omega (arith, c.loop-o-test.false, c.loop-o.auto.o-index-end) in
    ap Some (c.loop-o.invariant.2 ∙ ap (λ (k : ℕ). joined_below k (read_at c.args.s at list) (numbers_at at list)) end)
    ∙ sym (cond-true _ _ _ (sym (c.loop-o.invariant.0 ∙ ap (λ (k : ℕ). joins k (numbers_at at list)) end) ∙ c.if-fit.true))

pub returns-else-fit : goal.returns-else-fit
returns-else-fit c = let at = object_at (objects_in c.args.unit.now) in
    let list = c.args.list.now in
    let end : c.loop-o.o-index ≡ length list = omega (arith, c.loop-o-test.false, c.loop-o.auto.o-index-end) in
    sym (cond-false _ _ _ (sym (c.loop-o.invariant.0 ∙ ap (λ (k : ℕ). joins k (numbers_at at list)) end) ∙ c.if-fit.false))
