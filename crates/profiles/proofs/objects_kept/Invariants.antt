-- `profiles::objects_kept` meets its contract.
-- Assumes nothing.
use Prim.Native.Nat.{◌≤◌}
use mathlib.Core.Path.{◌≡◌}
use Rattle.model.specs.Tests.{all_below}
use Rattle.model.specs.Profiles.{object_inside, object_label_inside}
use Rattle.unit.specs.Rows.{state_in}
use Rattle.profiles.proofs.objects_kept.Given as goal

abbrev pub invariant-loop-o : goal.invariant-loop-o
invariant-loop-o l = (l.o ≤ 64) × (l.absent ≡ all_below l.o (object_inside (state_in l.unit))) × (l.inside ≡ all_below l.o (object_label_inside (state_in l.unit)))
