-- Where the fields and the parts of a record stand in the bytes.
-- Assumes nothing.
use mathlib.Core.Path.{◌≡◌, sym, ap, ◌∙◌}
use mathlib.Core.List.{List}
use Prim.Native.Nat.{ℕ, ◌+◌, ◌*◌, ◌≤◌}
use native.Mathlib.Omega.{arith}
use lib.ListN.{length, take, drop, length-drop}
use lib.Seq.{length-take-le, drop-drop}
use Rattle.bits.specs.Bits.{from_bits, bytes_to_bits, field}
use Rattle.bits.specs.Laws.{length-bytes_to_bits}
use Rattle.bits.specs.Fields.{field-within}
use Rattle.bits.specs.Records.{field-record}
use Rattle.image_records.specs.Records.{bits_at}

pub length_at : (s : List ℕ) (at w : ℕ) → at + w ≤ 8 * length s → length (bits_at s at w) ≡ w
length_at s at w h = length-take-le w (drop at (bytes_to_bits s)) (rw (length-drop at (bytes_to_bits s), length-bytes_to_bits s) (omega arith))

-- a part of the n bits from bit at on
module _ (s : List ℕ) (at n i w from : ℕ) (e : from ≡ at + i) (h : i + w ≤ n) where
  pub part_at : bits_at s from w ≡ take w (drop i (bits_at s at n))
  part_at = ap (λ (k : ℕ). bits_at s k w) e ∙ sym (field-record (bytes_to_bits s) at n i w h)

  pub field_at : at + n ≤ 8 * length s → field s from w ≡ from_bits (take w (drop i (bits_at s at n)))
  field_at f = field-within s from w (omega arith) ∙ ap from_bits part_at

-- byte i of the bits from bit at on
pub byte_at : (s : List ℕ) (at i : ℕ) → bits_at s (at + 8 * i) 8 ≡ take 8 (drop (8 * i) (drop at (bytes_to_bits s)))
byte_at s at i = rw (drop-drop (8 * i) at (bytes_to_bits s))
