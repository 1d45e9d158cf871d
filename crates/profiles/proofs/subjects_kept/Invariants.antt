-- `profiles::subjects_kept` meets its contract.
-- Assumes nothing.
use Prim.Native.Nat.{◌≤◌}
use mathlib.Core.Path.{◌≡◌}
use Rattle.model.specs.Tests.{all_below}
use Rattle.model.specs.Profiles.{subject_inside, clearance_inside}
use Rattle.unit.specs.Rows.{state_in}
use Rattle.profiles.proofs.subjects_kept.Given as goal

abbrev pub invariant-loop-s : goal.invariant-loop-s
invariant-loop-s l = (l.s ≤ 16) × (l.absent ≡ all_below l.s (subject_inside (state_in l.unit))) × (l.inside ≡ all_below l.s (clearance_inside (state_in l.unit)))
