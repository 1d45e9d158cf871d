-- The fields of a request and its six bytes: each gives back the other.
-- Assumes nothing.
use Prim.Native.Nat.{ℕ, ◌+◌, ◌^◌, ◌<◌, ◌≤◌}
use native.Mathlib.Omega.{arith}
use mathlib.Core.Path.{◌≡◌, refl, ap, ◌∙◌}
use mathlib.Core.Bool.{Bool}
use mathlib.Core.List.{List, ◌++◌}
use lib.ListN.{length, take, drop}
use lib.Seq.{take_all, take-add, drop-drop}
use Rattle.bits.specs.Bits.{to_bits, from_bits, bytes_to_bits, bits_to_bytes, field, Bytes}
use Rattle.bits.specs.Laws.{from_bits-to_bits, length-bytes_to_bits, bytes_to_bits-bits_to_bytes, bits_to_bytes-bytes_to_bits, bytes-bits_to_bytes, length-bits_to_bytes}
use Rattle.bits.specs.Fields.{field_lt, field-within, to_bits-field}
use Rattle.model.specs.declared.Fields.{Fields}
use Rattle.model.specs.State.{class_width, needs_width}
use Rattle.model.specs.Requests.{request_size, kind_width, actor_width, other_width, object_number_width, mode_width, spare_width, actor_offset, other_offset, object_number_offset, mode_offset, class_offset, needs_offset, spare_offset, fields, packed_bits, pack}

-- each number fits its width
pub record FieldsFit (f : Fields) : Type 0 where
  pub kind : f.kind < 2 ^ kind_width
  pub actor : f.actor < 2 ^ actor_width
  pub other : f.other < 2 ^ other_width
  pub object : f.object < 2 ^ object_number_width
  pub mode : f.mode < 2 ^ mode_width
  pub class : f.class < 2 ^ class_width
  pub needs : f.needs < 2 ^ needs_width
  pub spare : f.spare < 2 ^ spare_width

pub fields_fit : (b : List ℕ) → FieldsFit (fields b)
unfolding fields
fields_fit b =
    record {
      kind = field_lt b _ _;
      actor = field_lt b _ _;
      other = field_lt b _ _;
      object = field_lt b _ _;
      mode = field_lt b _ _;
      class = field_lt b _ _;
      needs = field_lt b _ _;
      spare = field_lt b _ _;
    }

packed-bits : (f : Fields) → bytes_to_bits (pack f) ≡ packed_bits f
unfolding pack to_bits
packed-bits f = bytes_to_bits-bits_to_bytes 6 (packed_bits f) refl

pub pack-length : (f : Fields) → length (pack f) ≡ request_size
unfolding pack
pack-length f = length-bits_to_bytes 6 (packed_bits f)

pub pack-bytes : (f : Fields) → Bytes (pack f)
unfolding pack
pack-bytes f = bytes-bits_to_bytes 6 (packed_bits f)

-- a field of a packed request, where its bits stand in the row
field-packed : (f : Fields) (at w v : ℕ) → at + w ≤ 48 → v < 2 ^ w → take w (drop at (packed_bits f)) ≡ to_bits w v → field (pack f) at w ≡ v
field-packed f at w v h fits e =
    field-within (pack f) at w (rw (pack-length f) h)
    ∙ ap (λ (b : List Bool). from_bits (take w (drop at b))) (packed-bits f) ∙ ap from_bits e ∙ from_bits-to_bits w fits

pub fields-packed : (f : Fields) → FieldsFit f → fields (pack f) ≡ f
unfolding fields to_bits
fields-packed f F =
    let k = field-packed f 0 kind_width f.kind (omega arith) F.kind refl in
    let a = field-packed f actor_offset actor_width f.actor (omega arith) F.actor refl in
    let t = field-packed f other_offset other_width f.other (omega arith) F.other refl in
    let o = field-packed f object_number_offset object_number_width f.object (omega arith) F.object refl in
    let x = field-packed f mode_offset mode_width f.mode (omega arith) F.mode refl in
    let c = field-packed f class_offset class_width f.class (omega arith) F.class refl in
    let n = field-packed f needs_offset needs_width f.needs (omega arith) F.needs refl in
    let z = field-packed f spare_offset spare_width f.spare (omega arith) F.spare refl in
    λ i. record { kind = k i; actor = a i; other = t i; object = o i; mode = x i; class = c i; needs = n i; spare = z i }

-- two parts of a list side by side
side_by_side : (l : List Bool) (at n m : ℕ) → take (n + m) (drop at l) ≡ take n (drop at l) ++ take m (drop (at + n) l)
side_by_side l at n m = take-add n m (drop at l) ∙ rw (drop-drop n at l)

-- the fields of six bytes in a row are their bits
pub packed-fields : (b : List ℕ) → Bytes b → length b ≡ request_size → pack (fields b) ≡ b
unfolding pack fields
packed-fields b hb e =
    let l = bytes_to_bits b in
    let n : length l ≡ 48 = length-bytes_to_bits b ∙ omega (arith, e) in
    let whole : take 48 (drop 0 l) ≡ l = take_all 48 l (omega arith) in
    let row : packed_bits (fields b) ≡ l =
    rw (
      to_bits-field b 0 kind_width (omega arith),
      to_bits-field b actor_offset actor_width (omega arith),
      to_bits-field b other_offset other_width (omega arith),
      to_bits-field b object_number_offset object_number_width (omega arith),
      to_bits-field b mode_offset mode_width (omega arith),
      to_bits-field b class_offset class_width (omega arith),
      to_bits-field b needs_offset needs_width (omega arith),
      to_bits-field b spare_offset spare_width (omega arith),
      ← side_by_side l needs_offset needs_width 4,
      ← side_by_side l class_offset class_width 20,
      ← side_by_side l mode_offset mode_width 24,
      ← side_by_side l object_number_offset object_number_width 27,
      ← side_by_side l other_offset other_width 34,
      ← side_by_side l actor_offset actor_width 39,
      ← side_by_side l 0 kind_width 44,
    ) whole in
    ap (bits_to_bytes 6) row ∙ bits_to_bytes-bytes_to_bits 6 b hb e
