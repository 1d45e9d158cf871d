-- `profiles::objects_kept` meets its contract.
-- Assumes nothing.
use Prim.Native.Nat.{ℕ}
use native.Mathlib.Omega.{arith}
use mathlib.Core.Path.{◌≡◌, ap, ◌∙◌}
use Rattle.model.specs.Tests.{all_below}
use Rattle.model.specs.Profiles.{object_inside, object_label_inside}
use Rattle.unit.specs.Rows.{state_in}
use Rattle.profiles.proofs.objects_kept.Goals as goal

pub returns : goal.returns
returns c = let loop = c.loop-o in
    let end : loop.o ≡ 64 = omega (arith, c.loop-o-test.false, loop.invariant.0) in
    let m = state_in c.args.unit.now in
    let absent = loop.invariant.1 ∙ ap (λ (k : ℕ). all_below k (object_inside m)) end in
    let inside = loop.invariant.2 ∙ ap (λ (k : ℕ). all_below k (object_label_inside m)) end in
    λ i. record { absent = absent i; inside = inside i }
