-- `record_fields::BitWriter::sets` meets its contract: after s turns the sets of the subjects below s are appended.
-- Assumes nothing.
use mathlib.Core.Path.{◌≡◌}
use Prim.Native.Nat.{◌+◌, ◌*◌, ◌≤◌}
use lib.ListN.{length, take}
use Rattle.bits.specs.Stream.{Appends}
use Rattle.model.specs.State.{subject_count}
use Rattle.model.specs.Layout.{pair_width, sets_bits}
use Rattle.record_fields.proofs.BitWriter.sets.Given as goal

abbrev pub invariant-loop-s : goal.invariant-loop-s
invariant-loop-s l = (l.s ≤ subject_count)
    × (length l.rights ≡ subject_count)
    × (length l.held ≡ subject_count)
    × (l.self.out.ghost_name ≡ l.initial.self.out.ghost_name)
    × (l.self.at ≡ l.initial.self.at)
    × Appends l.initial.self.out.now l.initial.self.at l.initial.self.waiting (sets_bits (take l.s l.rights) (take l.s l.held)) l.self.out.now (l.initial.self.at + pair_width * l.s) l.self.waiting
