-- Shifts and masks as products, remainders and sums.
-- Assumes nothing.
use mathlib.Core.Path.{◌≡◌, sym, ◌∙◌}
use Prim.Native.Nat.{ℕ, ◌+◌, ◌-◌, ◌*◌, ◌/◌, ◌%◌, ◌^◌, ◌≤◌, ◌<◌}
use mathlib.Core.List.{List}
use native.Mathlib.Nat.{one-mul}
use native.Mathlib.Omega.{arith}
use lib.Bits.{bit_and, bit_or, and_mask, or_shifted}
use lib.Dec.{lit<}
use lib.Pow.{pow_pos, shl_exact}
use Rattle.bits.specs.Bits.{field}
use Rattle.bits.specs.Fields.{field_lt, field-add, field-from-byte}

one_shl : (k : ℕ) → k < 32 → (1 * 2 ^ k) % 2 ^ 32 ≡ 2 ^ k
one_shl k h = shl_exact 1 k 32 (lit< tt) (omega arith) ∙ one-mul (2 ^ k)

-- a mask of k bits, made by a shift, leaves the remainder
pub mask : (n k : ℕ) → k < 32 → bit_and n ((1 * 2 ^ k) % 2 ^ 32 - 1) ≡ n % 2 ^ k
mask n k h = rw (one_shl k h) (and_mask n k)

pub mask-safe : (k : ℕ) → k < 32 → 1 ≤ (1 * 2 ^ k) % 2 ^ 32
mask-safe k h = rw (one_shl k h) (pow_pos k)

-- the mask of a byte
pub byte_of : (n : ℕ) → bit_and n 255 ≡ n % 256
byte_of n = and_mask n 8

pub byte-lt : (n : ℕ) → bit_and n 255 < 256
byte-lt n = rw (byte_of n) (omega arith)

-- the mask of half a byte
pub low-four : (n : ℕ) → bit_and n 15 ≡ n % 16
low-four n = and_mask n 4

pub low-four-lt : (n : ℕ) → bit_and n 15 < 16
low-four-lt n = rw (low-four n) (omega arith)

-- a number of k bits behind one of j bits, in a word of w bits
pub behind : {a b : ℕ} (j k w : ℕ) → a < 2 ^ j → b < 2 ^ k → j + k ≤ w → bit_or ((a * 2 ^ k) % 2 ^ w) b ≡ a * 2 ^ k + b
behind {a} {b} j k w ha hb h = rw (shl_exact j k w ha h) (or_shifted a k b hb)

-- ---- fields

-- a field behind the one before it
pub field-behind : (s : List ℕ) (at j k w : ℕ) → j + k ≤ w → bit_or ((field s at j * 2 ^ k) % 2 ^ w) (field s (at + j) k) ≡ field s at (j + k)
field-behind s at j k w h = behind j k w (field_lt s at j) (field_lt s (at + j) k) h ∙ sym (field-add s at j k)

-- what a shift and a mask take out of the n bits from the start of a field's first byte on
pub field_out : (s : List ℕ) (n at w : ℕ) → at % 8 + w ≤ n → w < 32
    → bit_and (field s (8 * (at / 8)) n / 2 ^ (n - at % 8 - w)) ((1 * 2 ^ w) % 2 ^ 32 - 1) ≡ field s at w
field_out s n at w h l = mask (field s (8 * (at / 8)) n / 2 ^ (n - at % 8 - w)) w l ∙ sym (field-from-byte s n at w h)
