-- `image_records::read_subjects` meets its contract.
-- Assumes nothing.
-- Bytes of another length have no form. After s turns the records of the subjects below s are read, and have their form or not.
-- Assumes nothing.
use mathlib.Core.Path.{◌≡◌}
use mathlib.Core.List.{map}
use Prim.Native.Nat.{◌≤◌}
use lib.ListN.{length, take}
use Rattle.bits.specs.Bits.{bytes_to_bits, cut}
use Rattle.model.specs.Tests.{all_of}
use Rattle.model.specs.State.{subject_count}
use Rattle.model.specs.Layout.{label_width}
use Rattle.model.specs.Reading.{subject_from, label_form}
use Rattle.image_records.proofs.read_subjects.Given as goal

abbrev pub invariant-loop-s : goal.invariant-loop-s
invariant-loop-s l = (l.s ≤ subject_count)
    × (length l.subjects ≡ subject_count)
    × (take l.s l.subjects ≡ map subject_from (cut l.s label_width (bytes_to_bits l.bytes)))
    × (l.formed ≡ all_of label_form (cut l.s label_width (bytes_to_bits l.bytes)))
