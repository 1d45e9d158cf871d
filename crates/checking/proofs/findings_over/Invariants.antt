-- `checking::findings_over` meets its contract.
-- Assumes nothing.
use Prim.Native.Nat.{◌≤◌}
use mathlib.Core.Path.{◌≡◌}
use lib.ListN.{take}
use Rattle.unit.specs.Rows.{subjects_in, objects_in}
use Rattle.checking.specs.Checks.{of_objects}
use Rattle.checking.proofs.findings_over.Given as goal

abbrev pub invariant-loop-o : goal.invariant-loop-o
invariant-loop-o l = (l.o ≤ 64) × (l.found ≡ of_objects (subjects_in l.unit) (take l.o (objects_in l.unit)))
