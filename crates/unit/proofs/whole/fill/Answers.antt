-- `unit::whole::fill` meets its contract.
-- Assumes nothing.
use mathlib.Core.Path.{sym, ap, ◌∙◌}
use Rattle.unit.specs.Rows.{profile_row}
use Rattle.unit.specs.Stored.{ObjectsStored}
use Rattle.unit.proofs.Units.{objects-more, subjects-all}
use Prim.Native.Nat.{◌+◌}
use mathlib.Core.Path.{◌≡◌, subst}
use lib.ListN.{length, set}
use Rattle.model.proofs.Arrays.{read-object}
use borrow.Author.Rules.{rules}
use Rattle.unit.proofs.whole.fill.Goals as goal

pub loop-o-preserved : goal.loop-o-preserved
loop-o-preserved c =
    let size : length c.args.m.objects ≡ 64 = search rules in
    subst (λ u. ObjectsStored c.args.m.objects u (c.loop-o.o + 1)) (sym c.set_object.ensures) (objects-more _ _ _ _ c.loop-o.invariant c.loop-o-test.true (read-object c.args.m.objects c.loop-o.o size c.loop-o-test.true))

pub returns : goal.returns
returns c = ap (set c.loop-s.unit profile_row) c.profile_row.ensures ∙ subjects-all _ _ _ c.loop-s.invariant c.loop-s-test.false
