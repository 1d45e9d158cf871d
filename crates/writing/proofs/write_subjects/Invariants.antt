-- `writing::write_subjects` meets its contract: after s turns the records below s are appended.
-- Assumes nothing.
use mathlib.Core.Path.{◌≡◌}
use Prim.Native.Nat.{◌+◌, ◌*◌, ◌≤◌}
use lib.ListN.{take}
use Rattle.bits.specs.Stream.{Appends}
use Rattle.model.specs.State.{subject_count}
use Rattle.model.specs.Layout.{label_width, table_bits}
use Rattle.unit.specs.Rows.{subjects_in}
use Rattle.writing.proofs.write_subjects.Given as goal

abbrev pub invariant-loop-s : goal.invariant-loop-s
invariant-loop-s l = (l.s ≤ subject_count)
    × (l.w.out.ghost_name ≡ l.initial.w.out.ghost_name)
    × (l.w.at ≡ l.initial.w.at + label_width * l.s)
    × Appends l.initial.w.out.now l.initial.w.at l.initial.w.waiting (table_bits (take l.s (subjects_in l.unit))) l.w.out.now l.w.at l.w.waiting
