-- `writing::write_objects` meets its contract: after o turns the records below o are appended.
-- Assumes nothing.
use mathlib.Core.Path.{◌≡◌}
use Prim.Native.Nat.{◌+◌, ◌*◌, ◌≤◌}
use lib.ListN.{take}
use Rattle.bits.specs.Stream.{Appends}
use Rattle.model.specs.State.{object_count}
use Rattle.model.specs.Layout.{object_width, objects_bits}
use Rattle.unit.specs.Rows.{objects_in}
use Rattle.writing.proofs.write_objects.Given as goal

abbrev pub invariant-loop-o : goal.invariant-loop-o
invariant-loop-o l = (l.o ≤ object_count)
    × (l.w.out.ghost_name ≡ l.initial.w.out.ghost_name)
    × (l.w.at ≡ l.initial.w.at + object_width * l.o)
    × Appends l.initial.w.out.now l.initial.w.at l.initial.w.waiting (objects_bits (take l.o (objects_in l.unit))) l.w.out.now l.w.at l.w.waiting
