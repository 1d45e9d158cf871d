-- `image_records::read_sets` meets its contract.
-- Assumes nothing.
-- After s turns the sets of the subjects below s are read, and the bits so far are blank or not.
-- Assumes nothing.
use mathlib.Core.Path.{◌≡◌}
use mathlib.Core.Bool.{Bool}
use mathlib.Core.List.{List, map}
use Prim.Native.Nat.{ℕ, ◌*◌, ◌≤◌}
use lib.ListN.{length, take, drop}
use Rattle.bits.specs.Bits.{bytes_to_bits, cut, all_zero}
use Rattle.model.specs.State.{subject_count}
use Rattle.model.specs.Layout.{pair_width}
use Rattle.model.specs.Reading.{rights_from, held_from}
use Rattle.image_records.proofs.read_sets.Given as goal

abbrev pub from : List ℕ → ℕ → List Bool
from s at = drop at (bytes_to_bits s)

abbrev pub invariant-loop-s : goal.invariant-loop-s
invariant-loop-s l = (l.s ≤ subject_count)
    × (length l.rights ≡ subject_count)
    × (length l.held ≡ subject_count)
    × (take l.s l.rights ≡ map rights_from (cut l.s pair_width (from l.bytes l.at)))
    × (take l.s l.held ≡ map held_from (cut l.s pair_width (from l.bytes l.at)))
    × (l.blank ≡ all_zero (take (8 * l.s) (from l.bytes l.at)))
