-- Laws of bits: of a number at a width, of the number that bits are, of bytes.
-- Assumes nothing.
use Rattle.std.specs.Prelude.{◌≡◌, refl, ℕ, zero, suc, ◌+◌, ◌-◌, ◌*◌, ◌/◌, ◌%◌, ◌^◌, ◌≤◌, ◌<◌, Bool, true, false, List, [], ◌∷◌, ◌++◌, eqb, length, take, drop, replicate}
use Rattle.std.proofs.Common.{sym, ap, ap₂, ◌∙◌, append_assoc, zero-add, suc-add, add_assoc, add_comm, mod-lt, mod-eq_of_lt, pow-suc, mul_assoc, mul_comm, add-mul, zero-lt-suc, lt_of_lt_of_le, one-add, arith, ne_eqb, pow_pos, pow_mono, pow-add, shr-shr, length-append, length-take, length-drop, take-append-drop, take_at, drop_at, take_all, length-take-le}
use Rattle.std.proofs.Math.Nat.{mul-add-div_right, mul-add-mod_self_right, suc_inj, zero-div}
use Rattle.std.proofs.Math.Pow.{split, high}
use Rattle.std.proofs.lemmas.Nat.{mod-pow-add}
use Rattle.bits.specs.Bits.{bit, odd, to_bits, from_bits, bytes_to_bits, bits_to_bytes, all_zero, Bytes}

-- ---- one bit

bit-small : (n : ℕ) → n < 2 → bit (eqb n 1) ≡ n
bit-small zero h = refl
bit-small (suc zero) h = refl
bit-small (suc (suc n)) h = absurd (omega arith)

bit-odd : (x : ℕ) → bit (odd x) ≡ x % 2
unfolding odd
bit-odd x = bit-small (x % 2) (mod-lt x (zero-lt-suc 1))

odd-bit : (b : Bool) → odd (bit b) ≡ b
unfolding odd
odd-bit true = refl
odd-bit false = refl

odd-add : (h x : ℕ) → odd (h * 2 + x) ≡ odd x
unfolding odd
odd-add h x = rw mul-add-mod_self_right

-- ---- the bits of a number at a width

pub length-to_bits : (w x : ℕ) → length (to_bits w x) ≡ w
unfolding to_bits
length-to_bits zero x = refl
length-to_bits (suc w) x = ap suc (length-to_bits w x)

-- the upper bits, then the lower
pub to_bits-split : (j k x : ℕ) → to_bits (j + k) x ≡ to_bits j (x / 2 ^ k) ++ to_bits k x
unfolding to_bits
to_bits-split zero k x = rw zero-add
to_bits-split (suc j) k x = rw (suc-add, to_bits-split j k x, shr-shr x k j, add_comm k j)

-- what stands above the width does not matter
pub to_bits-add : (k h x : ℕ) → to_bits k (h * 2 ^ k + x) ≡ to_bits k x
unfolding to_bits
to_bits-add zero h x = refl
to_bits-add (suc k) h x =
    let e : h * 2 ^ suc k ≡ h * 2 * 2 ^ k = ap (λ (p : ℕ). h * p) (pow-suc 2 k ∙ mul_comm (2 ^ k) 2) ∙ sym (mul_assoc h 2 (2 ^ k)) in
    rw (e, to_bits-add k (h * 2) x, mul-add-div_right (pow_pos k) (h * 2) x, odd-add h (x / 2 ^ k))

pub to_bits-mod : (k x : ℕ) → to_bits k (x % 2 ^ k) ≡ to_bits k x
to_bits-mod k x = sym (to_bits-add k (x / 2 ^ k) (x % 2 ^ k)) ∙ ap (to_bits k) (split x k)

-- a remainder that keeps more bits than are asked for
pub to_bits-low : (j w x : ℕ) → j ≤ w → to_bits j (x % 2 ^ w) ≡ to_bits j x
to_bits-low j w x h =
    let q = x / 2 ^ w in
    let d = w - j in
    let e : w ≡ d + j = omega arith in
    let p : q * 2 ^ w ≡ q * 2 ^ d * 2 ^ j = ap (λ (k : ℕ). q * 2 ^ k) e ∙ ap (λ (k : ℕ). q * k) (pow-add 2 d j) ∙ sym (mul_assoc q (2 ^ d) (2 ^ j)) in
    sym (to_bits-add j (q * 2 ^ d) (x % 2 ^ w)) ∙ ap (λ (k : ℕ). to_bits j (k + x % 2 ^ w)) (sym p) ∙ ap (to_bits j) (split x w)

pub to_bits-join : (j k h : ℕ) {r : ℕ} → r < 2 ^ k → to_bits (j + k) (h * 2 ^ k + r) ≡ to_bits j h ++ to_bits k r
to_bits-join j k h {r} l = to_bits-split j k (h * 2 ^ k + r) ∙ rw (high h k l, to_bits-add k h r)

-- ---- the number that bits are

pub from_bits-to_bits-mod : (w x : ℕ) → from_bits (to_bits w x) ≡ x % 2 ^ w
unfolding to_bits from_bits
from_bits-to_bits-mod zero x = omega arith
from_bits-to_bits-mod (suc w) x =
    rw (length-to_bits w x, bit-odd (x / 2 ^ w), from_bits-to_bits-mod w x) (sym (mod-pow-add x 1 w) ∙ ap (λ (k : ℕ). x % 2 ^ k) (one-add w))

pub from_bits-to_bits : (w : ℕ) {x : ℕ} → x < 2 ^ w → from_bits (to_bits w x) ≡ x
from_bits-to_bits w {x} h = from_bits-to_bits-mod w x ∙ mod-eq_of_lt h

-- two numbers of one width whose bits are the same are the same
pub to_bits-inj : (w : ℕ) {x y : ℕ} → x < 2 ^ w → y < 2 ^ w → to_bits w x ≡ to_bits w y → x ≡ y
to_bits-inj w hx hy e = sym (from_bits-to_bits w hx) ∙ ap from_bits e ∙ from_bits-to_bits w hy

pub from_bits-lt : (b : List Bool) → from_bits b < 2 ^ length b
unfolding from_bits
from_bits-lt [] = omega arith
from_bits-lt (true ∷ bs) = rw (pow-suc 2 (length bs)) (omega (arith, from_bits-lt bs))
from_bits-lt (false ∷ bs) = rw (pow-suc 2 (length bs)) (omega (arith, from_bits-lt bs))

pub from_bits-below : (w : ℕ) (b : List Bool) → length b ≤ w → from_bits b < 2 ^ w
from_bits-below w b h = lt_of_lt_of_le (from_bits-lt b) (pow_mono {i = length b} {j = w} h)

pub from_bits-take : (w : ℕ) (b : List Bool) → from_bits (take w b) < 2 ^ w
from_bits-take w b = from_bits-below w (take w b) (rw (length-take w b) (omega arith))

pub to_bits-from_bits : (b : List Bool) → to_bits (length b) (from_bits b) ≡ b
unfolding to_bits from_bits
to_bits-from_bits [] = refl
to_bits-from_bits (b ∷ bs) = rw (high (bit b) (length bs) (from_bits-lt bs), odd-bit b, to_bits-add (length bs) (bit b) (from_bits bs), to_bits-from_bits bs)

pub to_bits-from_bits-at : (w : ℕ) (b : List Bool) → length b ≡ w → to_bits w (from_bits b) ≡ b
to_bits-from_bits-at w b e = ap (λ (n : ℕ). to_bits n (from_bits b)) (sym e) ∙ to_bits-from_bits b

pub from_bits-append : (a b : List Bool) → from_bits (a ++ b) ≡ from_bits a * 2 ^ length b + from_bits b
unfolding from_bits
from_bits-append [] b = omega arith
from_bits-append (x ∷ a) b =
    rw (length-append a b, from_bits-append a b, pow-add 2 (length a) (length b), add-mul (bit x * 2 ^ length a) (from_bits a) (2 ^ length b), mul_assoc (bit x) (2 ^ length a) (2 ^ length b), add_assoc)

pub from_bits-split : (w k : ℕ) (b : List Bool) → length b ≡ w + k → from_bits b ≡ from_bits (take w b) * 2 ^ k + from_bits (take k (drop w b))
from_bits-split w k b e =
    let l : length (drop w b) ≡ k = length-drop w b ∙ omega arith in
    let t : take k (drop w b) ≡ drop w b = take_all k (drop w b) (omega arith) in
    ap from_bits (sym (take-append-drop w b)) ∙ from_bits-append (take w b) (drop w b) ∙ rw (t, l)

-- ---- no bit set

pub to_bits-zero : (n : ℕ) → to_bits n 0 ≡ replicate n false
unfolding to_bits odd
to_bits-zero zero = refl
to_bits-zero (suc n) = rw (zero-div (2 ^ n), to_bits-zero n)

pub from_bits-zeros : (n : ℕ) → from_bits (replicate n false) ≡ 0
unfolding from_bits
from_bits-zeros zero = refl
from_bits-zeros (suc n) = omega (arith, from_bits-zeros n)

pub all_zero-is : (b : List Bool) (n : ℕ) → length b ≡ n → all_zero b ≡ true → b ≡ replicate n false
unfolding all_zero
all_zero-is [] zero h e = refl
all_zero-is [] (suc n) h e = absurd (omega arith)
all_zero-is (x ∷ b) zero h e = absurd (omega arith)
all_zero-is (true ∷ b) (suc n) h e = let z : ◌≡◌ {A = ℕ} 0 1 = cc in absurd (omega arith)
all_zero-is (false ∷ b) (suc n) h e = let p = all_zero-is b n (omega arith) e in λ i. false ∷ p i

-- the number that bits are is 0 exactly where none is set
pub all_zero-from_bits : (b : List Bool) → all_zero b ≡ eqb (from_bits b) 0
unfolding all_zero from_bits
all_zero-from_bits [] = refl
all_zero-from_bits (true ∷ b) = sym (ne_eqb (1 * 2 ^ length b + from_bits b) 0 (λ e. absurd (omega (arith, e, pow_pos (length b)))))
all_zero-from_bits (false ∷ b) = let e : 0 * 2 ^ length b + from_bits b ≡ from_bits b = omega arith in rw e (all_zero-from_bits b)

-- ---- bytes

pub length-bytes_to_bits : (s : List ℕ) → length (bytes_to_bits s) ≡ 8 * length s
unfolding bytes_to_bits
length-bytes_to_bits [] = refl
length-bytes_to_bits (b ∷ s) = rw (length-append, length-to_bits 8 b, length-bytes_to_bits s) (omega arith)

pub bytes_to_bits-append : (s t : List ℕ) → bytes_to_bits (s ++ t) ≡ bytes_to_bits s ++ bytes_to_bits t
unfolding bytes_to_bits
bytes_to_bits-append [] t = refl
bytes_to_bits-append (b ∷ s) t = rw (bytes_to_bits-append s t, append_assoc)

module _ (n : ℕ) (s : List ℕ) (h : n ≤ length s) where
  front : length (bytes_to_bits (take n s)) ≡ 8 * n
  front = length-bytes_to_bits (take n s) ∙ rw (length-take-le n s h)

  parts : bytes_to_bits s ≡ bytes_to_bits (take n s) ++ bytes_to_bits (drop n s)
  parts = sym (ap bytes_to_bits (take-append-drop n s)) ∙ bytes_to_bits-append (take n s) (drop n s)

  pub take-bytes_to_bits : take (8 * n) (bytes_to_bits s) ≡ bytes_to_bits (take n s)
  take-bytes_to_bits = ap (take (8 * n)) parts ∙ take_at (bytes_to_bits (take n s)) (bytes_to_bits (drop n s)) (8 * n) front

  pub drop-bytes_to_bits : drop (8 * n) (bytes_to_bits s) ≡ bytes_to_bits (drop n s)
  drop-bytes_to_bits = ap (drop (8 * n)) parts ∙ drop_at (bytes_to_bits (take n s)) (bytes_to_bits (drop n s)) (8 * n) front

pub bytes_to_bits-inj : (s t : List ℕ) → Bytes s → Bytes t → length s ≡ length t → bytes_to_bits s ≡ bytes_to_bits t → s ≡ t
unfolding bytes_to_bits
bytes_to_bits-inj [] [] hs ht l e = refl
bytes_to_bits-inj [] (y ∷ t) hs ht l e = absurd (omega arith)
bytes_to_bits-inj (x ∷ s) [] hs ht l e = absurd (omega arith)
bytes_to_bits-inj (x ∷ s) (y ∷ t) hs ht l e =
    let head : to_bits 8 x ≡ to_bits 8 y = sym (take_at (to_bits 8 x) (bytes_to_bits s) 8 (length-to_bits 8 x)) ∙ ap (take 8) e ∙ take_at (to_bits 8 y) (bytes_to_bits t) 8 (length-to_bits 8 y) in
    let tail : bytes_to_bits s ≡ bytes_to_bits t = sym (drop_at (to_bits 8 x) (bytes_to_bits s) 8 (length-to_bits 8 x)) ∙ ap (drop 8) e ∙ drop_at (to_bits 8 y) (bytes_to_bits t) 8 (length-to_bits 8 y) in
    ap₂ (λ (a : ℕ) (r : List ℕ). a ∷ r)
    (to_bits-inj 8 (hs 0) (ht 0) head)
    (bytes_to_bits-inj s t (λ i. hs (suc i)) (λ i. ht (suc i)) (suc_inj l) tail)

pub length-bits_to_bytes : (n : ℕ) (b : List Bool) → length (bits_to_bytes n b) ≡ n
unfolding bits_to_bytes
length-bits_to_bytes zero b = refl
length-bits_to_bytes (suc n) b = ap suc (length-bits_to_bytes n (drop 8 b))

pub bytes-bits_to_bytes : (n : ℕ) (b : List Bool) → Bytes (bits_to_bytes n b)
unfolding bits_to_bytes
bytes-bits_to_bytes zero b i = omega arith
bytes-bits_to_bytes (suc n) b zero = from_bits-take 8 b
bytes-bits_to_bytes (suc n) b (suc i) = bytes-bits_to_bytes n (drop 8 b) i

pub bytes_to_bits-bits_to_bytes : (n : ℕ) (b : List Bool) → length b ≡ 8 * n → bytes_to_bits (bits_to_bytes n b) ≡ b
unfolding bits_to_bytes bytes_to_bits
bytes_to_bits-bits_to_bytes zero b h = take_all 0 b (omega arith)
bytes_to_bits-bits_to_bytes (suc n) b h =
    rw (to_bits-from_bits-at 8 (take 8 b) (length-take-le 8 b (omega arith)), bytes_to_bits-bits_to_bytes n (drop 8 b) (length-drop 8 b ∙ omega arith))
    (take-append-drop 8 b)

pub bits_to_bytes-bytes_to_bits : (n : ℕ) (s : List ℕ) → Bytes s → length s ≡ n → bits_to_bytes n (bytes_to_bits s) ≡ s
bits_to_bytes-bytes_to_bits n s hs e =
    bytes_to_bits-inj (bits_to_bytes n (bytes_to_bits s)) s (bytes-bits_to_bytes n (bytes_to_bits s)) hs (length-bits_to_bytes n (bytes_to_bits s) ∙ sym e)
    (bytes_to_bits-bits_to_bytes n (bytes_to_bits s) (length-bytes_to_bits s ∙ ap (λ (k : ℕ). 8 * k) e))
