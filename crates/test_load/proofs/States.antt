-- The generator keeps to 32 bits, and comes to 0 from 0 alone.
-- Assumes nothing.
use Prim.Native.Nat.{ℕ, zero, suc, ◌+◌, ◌-◌, ◌*◌, ◌/◌, ◌%◌, ◌^◌, ◌≤◌, ◌<◌}
use native.Mathlib.Nat.{mod-lt, mod-eq_of_lt, mod-one, mul-mod_left, mul-mul-mul_comm, pow-suc, add-zero}
use native.Mathlib.Numerals.{one-add}
use native.Mathlib.Omega.{arith}
use mathlib.Core.Path.{◌≡◌, refl, sym, ap, ◌∙◌}
use mathlib.Core.Logic.{◌≢◌}
use lib.Pow.{pow_pos, split, shr_le, shr-shr, mod-mod-pow}
use lib.Bits.{bit_xor, xor_lt, xor_add_and, and_le_l, and_le_r}
use Rattle.test_load.specs.Generator.{state_width, shift_left, shift_right, xorshift, draw}

-- ---- 32 bits

module _ (x : ℕ) (h : x < 2 ^ state_width) where
  pub left-fits : (k : ℕ) → shift_left k x < 2 ^ state_width
  left-fits k = xor_lt state_width x (x * 2 ^ k % 2 ^ state_width) h (mod-lt (x * 2 ^ k) (pow_pos state_width))

  pub right-fits : (k : ℕ) → shift_right k x < 2 ^ state_width
  right-fits k = xor_lt state_width x (x / 2 ^ k) h (omega (arith, h, shr_le x k))

-- "32-bit"
pub xorshift-fits : (x : ℕ) → x < 2 ^ state_width → xorshift x < 2 ^ state_width
unfolding xorshift
xorshift-fits x h = left-fits (shift_right 17 (shift_left 13 x)) (right-fits (shift_left 13 x) (left-fits x h 13) 17) 5

pub draw-fits : (n x : ℕ) → x < 2 ^ state_width → draw n x < 2 ^ state_width
unfolding draw
draw-fits zero x h = h
draw-fits (suc n) x h = draw-fits n (xorshift x) (xorshift-fits x h)

-- ---- 0

-- what is 0 was combined of two equal numbers
xor-zero : (a b : ℕ) → bit_xor a b ≡ 0 → a ≡ b
xor-zero a b e = omega (arith, e, xor_add_and a b, and_le_l a b, and_le_r a b)

-- a number that is no more than its own half is 0
right_zero : (k x : ℕ) → shift_right (suc k) x ≡ 0 → x ≡ 0
right_zero k x e =
    let same : x ≡ x / 2 ^ suc k = xor-zero x (x / 2 ^ suc k) e in
    let halved : x / 2 ^ suc k ≡ x / 2 / 2 ^ k = ap (λ n. x / 2 ^ n) (sym (one-add k)) ∙ sym (shr-shr x 1 k) in
    omega (arith, same, halved, shr_le (x / 2) k)

module _ (k x : ℕ) (e : x ≡ x * 2 ^ suc k % 2 ^ state_width) where
  -- a number that is a shift of itself has only zeros among its low bits, one more with each step
  low_zeros : (j : ℕ) → j ≤ state_width → x % 2 ^ j ≡ 0
  low_zeros zero h = mod-one x
  low_zeros (suc j) h =
      let q = x / 2 ^ j in
      let part : x ≡ q * 2 ^ j = sym (split x j) ∙ ap (λ r. q * 2 ^ j + r) (low_zeros j (omega (arith, h))) ∙ add-zero (q * 2 ^ j) in
      let shifted : x * 2 ^ suc k ≡ q * 2 ^ k * 2 ^ suc j =
      ap (λ y. y * 2 ^ suc k) part ∙ ap (λ p. q * 2 ^ j * p) (pow-suc 2 k) ∙ mul-mul-mul_comm q (2 ^ j) (2 ^ k) 2 ∙ ap (λ p. q * 2 ^ k * p) (sym (pow-suc 2 j)) in
      let sum : state_width ≡ state_width - suc j + suc j = omega arith in
      ap (λ y. y % 2 ^ suc j) (e ∙ ap (λ w. x * 2 ^ suc k % 2 ^ w) sum)
      ∙ mod-mod-pow (x * 2 ^ suc k) (state_width - suc j) (suc j)
      ∙ ap (λ y. y % 2 ^ suc j) shifted ∙ mul-mod_left (q * 2 ^ k) (2 ^ suc j)

left-zero : (k x : ℕ) → x < 2 ^ state_width → shift_left (suc k) x ≡ 0 → x ≡ 0
left-zero k x h e =
    sym (mod-eq_of_lt h) ∙ low_zeros k x (xor-zero x (x * 2 ^ suc k % 2 ^ state_width) e) state_width (omega arith)

pub zero-from-zero : (x : ℕ) → x < 2 ^ state_width → xorshift x ≡ 0 → x ≡ 0
unfolding xorshift
zero-from-zero x h e =
    let a = left-fits x h 13 in
    left-zero 12 x h
    (right_zero 16 (shift_left 13 x)
    (left-zero 4 (shift_right 17 (shift_left 13 x)) (right-fits (shift_left 13 x) a 17) e))

-- a state that is not 0 never becomes 0
pub draw-never-zero : (n x : ℕ) → x < 2 ^ state_width → x ≢ 0 → draw n x ≢ 0
unfolding draw
draw-never-zero zero x h e = e
draw-never-zero (suc n) x h e = draw-never-zero n (xorshift x) (xorshift-fits x h) (λ z. e (zero-from-zero x h z))

-- from 0 every draw is 0, which is why the seed 0 is refused
pub draw-from-zero : (n : ℕ) → draw n 0 ≡ 0
unfolding draw xorshift
draw-from-zero zero = refl
draw-from-zero (suc n) = draw-from-zero n
