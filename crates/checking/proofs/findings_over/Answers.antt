-- `checking::findings_over` meets its contract.
-- Assumes nothing.
use Prim.Native.Nat.{ℕ}
use native.Mathlib.Omega.{arith}
use mathlib.Core.Path.{◌≡◌, ap, ap₂, ◌∙◌}
use lib.ListN.{take}
use lib.Seq.{take_all}
use Rattle.model.specs.State.{no_object}
use Rattle.unit.specs.Rows.{object_in, subjects_in, objects_in}
use Rattle.unit.proofs.Tabulated.{tabulate-length}
use Rattle.checking.specs.Checks.{both, of_object, of_objects}
use Rattle.checking.proofs.Passes.{along-more}
use Rattle.checking.proofs.findings_over.Goals as goal

pub loop-o-preserved : goal.loop-o-preserved
loop-o-preserved c = let loop = c.loop-o in
    let u = c.args.unit.now in (
      omega (arith, c.loop-o-test.true),
      c.both-found.ensures ∙ ap₂ both loop.invariant.1 c.findings_of.ensures
          ∙ along-more (of_object (subjects_in u)) (objects_in u) loop.o no_object (omega (arith, c.loop-o-test.true, tabulate-length 64 (object_in u))),
    )

pub returns : goal.returns
returns c = let loop = c.loop-o in
    let u = c.args.unit.now in
    let end : loop.o ≡ 64 = omega (arith, c.loop-o-test.false, loop.invariant.0) in
    loop.invariant.1 ∙ ap (λ (o : ℕ). of_objects (subjects_in u) (take o (objects_in u))) end ∙ ap (of_objects (subjects_in u)) (take_all 64 (objects_in u) (omega (arith, tabulate-length 64 (object_in u))))
