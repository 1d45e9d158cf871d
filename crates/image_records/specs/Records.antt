-- What is read of the bits of each record: what they say, and whether they have the form.
-- Assumes nothing.
use Rattle.std.specs.Prelude.{ℕ, ◌+◌, Bool, false, cond, List, map, length, take, drop, replicate, eqb}
use Rattle.std.specs.Bool.{then_some}
use Rattle.bits.specs.Bits.{bytes_to_bits, cut, first, all_zero}
use Rattle.model.specs.Layout.{owner_width, pair_width, table_size}
use Rattle.model.specs.State.{subject_count, nobody}
use Rattle.model.specs.Reading.{field_of, label_from, rights_from, held_from, object_from, object_form, table_from, table_form}
use Rattle.image_records.specs.declared.FlagRead.{FlagRead}
use Rattle.image_records.specs.declared.LabelRead.{LabelRead}
use Rattle.image_records.specs.declared.SetsRead.{SetsRead}
use Rattle.image_records.specs.declared.ObjectRead.{ObjectRead}
use Rattle.image_records.specs.declared.TableRead.{TableRead}

-- w bits of bytes, from bit at on
abbrev pub bits_at : List ℕ → ℕ → ℕ → List Bool
bits_at s at w = take w (drop at (bytes_to_bits s))

-- a bit and a number behind it: live and owner, and as wide present and class
abbrev pub flag_width : ℕ
flag_width = 1 + owner_width

abbrev pub flag_of : List Bool → FlagRead
flag_of b = record { number = then_some (first b) (field_of b 1 owner_width); blank = all_zero b }

-- of a label's record
abbrev pub label_of : List Bool → LabelRead
label_of b = record { label = label_from b; blank = all_zero b }

-- of the sets of sixteen subjects
abbrev pub sets_of : List Bool → SetsRead
sets_of b = record { rights = map rights_from (cut subject_count pair_width b); held = map held_from (cut subject_count pair_width b); blank = all_zero b }

-- of an object's record
abbrev pub object_of : List Bool → ObjectRead
object_of b = record { object = object_from b; formed = object_form b }

-- of bytes that are to be a table
unfoldable pub subjects_read : List ℕ → TableRead
subjects_read s =
    cond (eqb (length s) table_size) (record { subjects = table_from s; formed = table_form s })
    (record { subjects = replicate subject_count nobody; formed = false })
