-- The fields of a byte string are those of the number in its first 48 bits.
-- Assumes nothing.
use Prim.Native.Nat.{ℕ, ◌/◌, ◌%◌, ◌^◌}
use native.Mathlib.Omega.{arith}
use mathlib.Core.Path.{◌≡◌, sym, ◌∙◌}
use mathlib.Core.List.{List}
use Rattle.bits.specs.Bits.{field}
use Rattle.bits.specs.Fields.{field-of-field}
use Rattle.model.specs.Requests.{fields}
use Rattle.decoding.specs.Word.{fields_of_word}

pub fields-word : (b : List ℕ) → fields_of_word (field b 0 48) ≡ fields b
unfolding fields fields_of_word
fields-word b =
    let last : field b 0 48 / 2 ^ 0 % 2 ^ 4 ≡ field b 0 48 % 2 ^ 4 = omega arith in
    λ i. record {
      kind = sym (field-of-field b 48 0 4 (omega arith)) i;
      actor = sym (field-of-field b 48 4 5 (omega arith)) i;
      other = sym (field-of-field b 48 9 5 (omega arith)) i;
      object = sym (field-of-field b 48 14 7 (omega arith)) i;
      mode = sym (field-of-field b 48 21 3 (omega arith)) i;
      class = sym (field-of-field b 48 24 4 (omega arith)) i;
      needs = sym (field-of-field b 48 28 16 (omega arith)) i;
      spare = sym (field-of-field b 48 44 4 (omega arith) ∙ last) i;
    }
