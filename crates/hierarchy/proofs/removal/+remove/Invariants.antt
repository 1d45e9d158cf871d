-- `hierarchy::removal::remove`: the recursion ends since the live objects are fewer at each call.
-- Assumes nothing.
use Rattle.std.proofs.Common.{◌≡◌, ◌≤◌, length}
use Rattle.model.specs.State.{no_object}
use Rattle.unit.specs.Rows.{Rows, row_count, objects_in}
use Rattle.unit.specs.Stored.{set_object}
use Rattle.hierarchy.proofs.Meeting.{live_count}
use Rattle.hierarchy.proofs.Leaving.{Leaves}
use Rattle.hierarchy.proofs.removal.+remove.Given as goal

abbrev pub decreases-remove : goal.decreases-remove
decreases-remove l = live_count (objects_in l.unit.now)

abbrev pub invariant-loop-c : goal.invariant-loop-c
invariant-loop-c l =
    (l.c ≤ 64) × (length l.unit ≡ row_count) × ((u : Rows) → length u ≡ row_count → l.initial.unit ≡ set_object u l.o no_object → Leaves u l.o l.unit l.c)
