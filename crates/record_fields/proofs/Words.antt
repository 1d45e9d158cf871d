-- The numbers that the writer makes by shifts and masks, and their bits.
-- Assumes nothing.
use mathlib.Core.Path.{◌≡◌, refl, sym, ap, ◌∙◌}
use mathlib.Core.Bool.{Bool, true, false}
use mathlib.Core.List.{List, [], ◌∷◌, ◌++◌, append_assoc}
use Prim.Native.Nat.{ℕ, ◌+◌, ◌*◌, ◌/◌, ◌%◌, ◌^◌, ◌<◌}
use native.Mathlib.Nat.{mod-lt}
use native.Mathlib.Omega.{arith}
use lib.Bits.{bit_or}
use mir.Val.{bool_byte}
use Rattle.bits.specs.Bits.{to_bits, odd}
use Rattle.bits.specs.Laws.{to_bits-join, to_bits-mod, to_bits-low, to_bits-split}
use Rattle.bits.proofs.Machine.{behind}
use Rattle.model.specs.declared.Level.{Level}
use Rattle.std.specs.Prelude.{Some, None}
use Rattle.model.specs.Layout.{label_width, label_bits}

-- ---- two numbers of four bits side by side

-- the bits of the lower one, and j bits of the upper one before them
pub pair-bits : (j high low : ℕ) → j < 5 → to_bits (j + 4) (high % 16 * 16 + low % 16) ≡ to_bits j high ++ to_bits 4 low
pair-bits j high low h =
    to_bits-join j 4 (high % 16) (mod-lt low (omega arith))
    ∙ ap (λ (l : List Bool). l ++ to_bits 4 (low % 16)) (to_bits-low j 4 high (omega arith))
    ∙ ap (λ (l : List Bool). to_bits j high ++ l) (to_bits-mod 4 low)

-- a bool as a number
flag-bit : (b : Bool) → to_bits 1 (bool_byte b) ≡ b ∷ []
unfolding to_bits odd
flag-bit true = refl
flag-bit false = refl

pub flag-bits : (b : Bool) (n : ℕ) → to_bits 5 (bool_byte b % 16 * 16 + n % 16) ≡ b ∷ to_bits 4 n
flag-bits b n = pair-bits 1 (bool_byte b) n (omega arith) ∙ ap (λ (l : List Bool). l ++ to_bits 4 n) (flag-bit b)

-- ---- labels

pub absent-bits : to_bits label_width 0 ≡ label_bits None
unfolding label_bits to_bits odd
absent-bits = refl

-- the needs behind the five bits of a class that is present
pub present-bits : (v : Level) (head : ℕ) → head ≡ 16 + v.class % 16 → v.needs < 65536
    → to_bits label_width (bit_or ((head * 65536) % 2 ^ 32) v.needs) ≡ label_bits (Some v)
unfolding label_bits
present-bits v head e h =
    let small : head < 32 = omega arith in
    let bits : to_bits 5 head ≡ true ∷ to_bits 4 v.class = ap (to_bits 5) e ∙ flag-bits true v.class in
    ap (to_bits label_width) (behind 5 16 32 small h (omega arith)) ∙ to_bits-join 5 16 head h ∙ ap (λ (l : List Bool). l ++ to_bits 16 v.needs) bits

-- the bits of a label, appended as 5, 8 and 8
pub three-parts : (w : ℕ) → (to_bits 5 (w / 65536) ++ to_bits 8 (w / 256)) ++ to_bits 8 w ≡ to_bits label_width w
three-parts w =
    append_assoc (to_bits 5 (w / 65536)) (to_bits 8 (w / 256)) (to_bits 8 w)
    ∙ ap (λ (l : List Bool). to_bits 5 (w / 65536) ++ l) (sym (to_bits-split 8 8 w)) ∙ sym (to_bits-split 5 16 w)
