-- Bytes worked out by hand from the scope's widths: requests in which every field has another number, and one object record.
-- Assumes nothing.
use Prim.Native.Nat.{ℕ, ◌*◌}
use mathlib.Core.Path.{◌≡◌, refl}
use mathlib.Core.Bool.{true, false}
use mathlib.Core.List.{List, [], ◌∷◌, map}
use lib.ListN.{take}
use Rattle.bits.specs.Bits.{odd, to_bits, from_bits, bytes_to_bits, field, cut}
use Rattle.model.specs.declared.Level.{Level}
use Rattle.std.specs.Prelude.{Some}
use Rattle.model.specs.declared.Object.{Object}
use Rattle.model.specs.declared.Mode.TheVariants.{Read, Write, Append, Execute}
use Rattle.model.specs.declared.Request.TheVariants.{Get, Release, Give, Rescind, Create, Delete, ChangeLevel, SetCompanies}
use Rattle.model.specs.Tests.{implies}
use Rattle.model.specs.Levels.{need}
use Rattle.model.specs.State.{widest, no_object, with_owner, with_label, with_companies, with_parent, with_rows}
use Rattle.model.specs.Requests.{fields, mode_allowed, unused_zero, parent_within, fields_formed, within, well_formed, request, creation, decode_fields, decode}
use Rattle.model.specs.Layout.{label_width, object_width, table_width, table_size, objects_width, objects_size, image_size, label_bits, sets_bits, object_bits}
use Rattle.model.specs.Reading.{label_from, label_form, object_from, object_form}

-- ---- requests

-- "kind 4 bits, actor 5, other subject 5, object 7, mode 3, class 4, needs 16, spare 4":
-- 1010 10101 01100 1001101 110 1001 1011001111000101 1110
pub every-field : fields (0xAA ∷ 0xB2 ∷ 0x6E ∷ 0x9B ∷ 0x3C ∷ 0x5E ∷ [])
    ≡ record { kind = 10; actor = 21; other = 12; object = 77; mode = 6; class = 9; needs = 0xB3C5; spare = 14 }
unfolding fields field bytes_to_bits to_bits odd from_bits
every-field = refl

abbrev level : ℕ → ℕ → Level
level class needs = record { class = class; needs = needs }

-- the eight kinds, 1 to 8, by subject 5, in give and rescind for subject 9, on object 42; "Modes: .. 1 r, 2 w, 3 a, 4 e"; the second create with the last object as parent
pub every-kind : map (decode widest)
    ((0x12 ∷ 0x80 ∷ 0x01 ∷ 0x00 ∷ 0x00 ∷ 0x00 ∷ [])
    ∷ (0x22 ∷ 0x81 ∷ 0x52 ∷ 0x00 ∷ 0x00 ∷ 0x00 ∷ [])
    ∷ (0x32 ∷ 0xA5 ∷ 0x53 ∷ 0x00 ∷ 0x00 ∷ 0x00 ∷ [])
    ∷ (0x42 ∷ 0xA5 ∷ 0x54 ∷ 0x00 ∷ 0x00 ∷ 0x00 ∷ [])
    ∷ (0x52 ∷ 0x81 ∷ 0x54 ∷ 0x00 ∷ 0x00 ∷ 0x00 ∷ [])
    ∷ (0x52 ∷ 0x81 ∷ 0x50 ∷ 0x00 ∷ 0x04 ∷ 0x00 ∷ [])
    ∷ (0x62 ∷ 0x81 ∷ 0x50 ∷ 0x00 ∷ 0x00 ∷ 0x00 ∷ [])
    ∷ (0x72 ∷ 0x81 ∷ 0x50 ∷ 0xB1 ∷ 0x23 ∷ 0x40 ∷ [])
    ∷ (0x82 ∷ 0x81 ∷ 0x50 ∷ 0x01 ∷ 0x23 ∷ 0x40 ∷ [])
    ∷ [])
    ≡ map Some
    (Get 5 0 Read
    ∷ Release 5 42 Write
    ∷ Give 5 9 42 Append
    ∷ Rescind 5 9 42 Execute
    ∷ Create 5 42 (creation true 0)
    ∷ Create 5 42 (creation false 64)
    ∷ Delete 5 42
    ∷ ChangeLevel 5 42 (level 11 0x1234)
    ∷ SetCompanies 5 42 0x1234
    ∷ [])
unfolding decode decode_fields fields field bytes_to_bits to_bits odd from_bits well_formed fields_formed within mode_allowed unused_zero parent_within implies request
every-kind = refl

-- "need k weighs 2^k": 8005 has the needs 0, 2 and 15
pub need-weights : map (λ (k : ℕ). need k 0x8005) (0 ∷ 1 ∷ 2 ∷ 3 ∷ 14 ∷ 15 ∷ []) ≡ true ∷ false ∷ true ∷ false ∷ false ∷ true ∷ []
unfolding need odd
need-weights = refl

-- ---- sizes

-- the numbers that the scope prints, and whole bytes: no bit is lost by a division
pub every-size : (label_width ≡ 21) × (object_width ≡ 177) × (table_size ≡ 42) × (image_size ≡ 1458) × (table_width ≡ 8 * table_size) × (objects_width ≡ 8 * objects_size)
every-size = (refl, refl, refl, refl, refl, refl)

-- ---- an object record

-- live, owned by subject 5, labelled (9, 1234), with the companies 5, 0, 12 and 3; subject 0 has r and w and holds r, 1 has w and a and holds a, 5 has all and holds w,
-- 15 has r, a and e and holds e; object 41 is its parent
abbrev trace : Object
trace =
    with_owner (with_parent (with_rows (with_companies (with_label no_object (Some (level 9 0x1234))) 0x50C3)
    (12 ∷ 6 ∷ 0 ∷ 0 ∷ 0 ∷ 15 ∷ 0 ∷ 0 ∷ 0 ∷ 0 ∷ 0 ∷ 0 ∷ 0 ∷ 0 ∷ 0 ∷ 11 ∷ [])
    (8 ∷ 2 ∷ 0 ∷ 0 ∷ 0 ∷ 4 ∷ 0 ∷ 0 ∷ 0 ∷ 0 ∷ 0 ∷ 0 ∷ 0 ∷ 0 ∷ 0 ∷ 1 ∷ [])) 42) 5

-- "live 1, owner 4, label present 1, class 4, needs 16", the company numbers "after the needs" in 16, "then for subjects 0 to 15 four right
-- bits and four access bits, each r, w, a, e": 1 0101 1 1001 0001001000110100, 0101000011000011, then 1100 1000, 0110 0010, three times 0, 1111 0100, nine times 0, 1011 0001, the parent "number plus one", 0101010, and seven bits behind it
abbrev trace_bytes : List ℕ
trace_bytes =
    0xAE ∷ 0x44 ∷ 0x8D ∷ 0x14 ∷ 0x30 ∷ 0xF2 ∷ 0x18 ∷ 0x80 ∷ 0x00 ∷ 0x00 ∷ 0x3D ∷ 0x00 ∷ 0x00 ∷ 0x00 ∷ 0x00 ∷ 0x00 ∷ 0x00 ∷ 0x00 ∷ 0x00 ∷ 0x00 ∷ 0x2C ∷ 0x55 ∷ 0x00 ∷ []

pub record-bits : object_bits trace ≡ take object_width (bytes_to_bits trace_bytes)
unfolding object_bits label_bits sets_bits bytes_to_bits to_bits odd
record-bits = refl

pub record-read : (object_from (take object_width (bytes_to_bits trace_bytes)) ≡ trace) × (object_form (take object_width (bytes_to_bits trace_bytes)) ≡ true)
unfolding object_from object_form label_from label_form bytes_to_bits to_bits odd from_bits cut
record-read = (refl, refl)
