-- The layout of table and image ("Image and table" in the scope): every size and offset once, and the bits of each record.
-- Assumes nothing.
use Rattle.std.specs.Prelude.{ℕ, ◌+◌, ◌*◌, ◌/◌, Bool, true, false, List, [], ◌∷◌, ◌++◌, map, replicate, Some, None}
use Rattle.bits.specs.Bits.{to_bits, bits_to_bytes, join}
use Rattle.model.specs.Levels.{Label}
use Rattle.model.specs.declared.Subject.{Subject}
use Rattle.model.specs.declared.Object.{Object}
use Rattle.model.specs.declared.Monitor.{Monitor}
use Rattle.model.specs.Companies.{companies_width}
use Rattle.model.specs.State.{subject_count, object_count, class_width, needs_width}

-- "subject records of 21 bits (enrolled 1, class 4, needs 16)"; a label has the same form
abbrev pub label_width : ℕ
label_width = 1 + class_width + needs_width

-- "live 1, owner 4", then the label
abbrev pub owner_width : ℕ
owner_width = 4

abbrev pub label_offset : ℕ
label_offset = 1 + owner_width

-- "these 16 bits after the needs of each object record": the company numbers (change request §10)
abbrev pub companies_offset : ℕ
companies_offset = label_offset + label_width

-- "then for subjects 0 to 15 four right bits and four access bits"
abbrev pub set_width : ℕ
set_width = 4

abbrev pub pair_width : ℕ
pair_width = set_width + set_width

abbrev pub sets_offset : ℕ
sets_offset = companies_offset + companies_width

abbrev pub sets_width : ℕ
sets_width = subject_count * pair_width

-- "Each object record of the image ends with 7 parent bits" (change request §11)
abbrev pub parent_width : ℕ
parent_width = 7

abbrev pub parent_offset : ℕ
parent_offset = sets_offset + sets_width

-- "object records of 154 bits", and these 16 and 7
abbrev pub object_width : ℕ
object_width = parent_offset + parent_width

-- "The table is 16 subject records of 21 bits .. : 42 bytes"; "The object records begin at byte 42"
abbrev pub table_width : ℕ
table_width = subject_count * label_width

abbrev pub table_size : ℕ
table_size = table_width / 8

-- "64 object records"
abbrev pub objects_width : ℕ
objects_width = object_count * object_width

abbrev pub objects_size : ℕ
objects_size = objects_width / 8

-- "in all 1,458 bytes" (change request §11)
abbrev pub image_size : ℕ
image_size = table_size + objects_size

-- present 1, class 4, needs 16; "What is absent .. has all its other bits 0"
unfoldable pub label_bits : Label → List Bool
label_bits None = replicate label_width false
label_bits (Some l) = true ∷ (to_bits class_width l.class ++ to_bits needs_width l.needs)

-- "a subject's table record"
abbrev pub subject_bits : Subject → List Bool
subject_bits s = label_bits s.clearance

-- "for subjects 0 to 15 four right bits and four access bits"
unfoldable pub sets_bits : List ℕ → List ℕ → List Bool
sets_bits [] hs = []
sets_bits (r ∷ rs) [] = []
sets_bits (r ∷ rs) (h ∷ hs) = (to_bits set_width r ++ to_bits set_width h) ++ sets_bits rs hs

-- "live 1, owner 4", the label, the company numbers, the sets, the parent, "number plus one or 0"
unfoldable pub object_bits : Object → List Bool
object_bits ob =
    ob.live
    ∷ (to_bits owner_width ob.owner
    ++ (label_bits ob.label ++ (to_bits companies_width ob.companies ++ (sets_bits ob.rights ob.held ++ to_bits parent_width ob.parent))))

-- "The table is 16 subject records"
abbrev pub table_bits : List Subject → List Bool
table_bits l = join (map subject_bits l)

-- "64 object records", "a part of their own"
abbrev pub objects_bits : List Object → List Bool
objects_bits l = join (map object_bits l)

-- "The image is the table and then 64 object records", "no padding, fields packed most significant bit first"
unfoldable pub image_bits : Monitor → List Bool
image_bits m = table_bits m.subjects ++ objects_bits m.objects

unfoldable pub image_of : Monitor → List ℕ
image_of m = bits_to_bytes image_size (image_bits m)
