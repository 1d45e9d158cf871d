-- The generator on numbers and on rows of bits is the same.
-- Assumes nothing.
use Prim.Native.Nat.{ℕ, zero, suc, ◌+◌, ◌-◌, ◌*◌, ◌/◌, ◌%◌, ◌^◌, ◌≤◌, ◌<◌}
use native.Mathlib.Nat.{mul-add-mod_self_right, mod-lt, zero-lt-suc, add-zero, div-eq_of_lt}
use native.Mathlib.Omega.{arith}
use mathlib.Core.Path.{◌≡◌, refl, sym, ap, ap₂, ◌∙◌}
use mathlib.Core.Bool.{xor}
use mathlib.Core.List.{◌∷◌, ◌++◌, zip_with}
use lib.Dec.{eqb}
use lib.Pow.{pow_pos, shr-shr}
use lib.Bits.{bit_xor, differ, xor_step, xor_shr}
use lib.ListN.{take, drop}
use lib.Seq.{take_at, drop_at}
use Rattle.bits.specs.Bits.{odd, to_bits}
use Rattle.bits.specs.Laws.{length-to_bits, to_bits-split, to_bits-join, to_bits-mod, to_bits-zero}
use Rattle.test_load.specs.Generator.{state_width, shift_left, shift_right, xorshift}
use Rattle.test_load.specs.Rows.{moved_left, moved_right, combined, next_row}
use Rattle.test_load.proofs.States.{left-fits}

-- ---- exclusive or

xor-small : (a b : ℕ) → a < 2 → b < 2 → eqb (differ a b) 1 ≡ xor (eqb a 1) (eqb b 1)
unfolding xor
xor-small zero zero h g = refl
xor-small zero (suc zero) h g = refl
xor-small (suc zero) zero h g = refl
xor-small (suc zero) (suc zero) h g = refl
xor-small zero (suc (suc b)) h g = absurd (omega arith)
xor-small (suc zero) (suc (suc b)) h g = absurd (omega arith)
xor-small (suc (suc a)) b h g = absurd (omega arith)

differ-small : (a b : ℕ) → a < 2 → b < 2 → differ a b % 2 ≡ differ a b
differ-small zero zero h g = refl
differ-small zero (suc zero) h g = refl
differ-small (suc zero) zero h g = refl
differ-small (suc zero) (suc zero) h g = refl
differ-small zero (suc (suc b)) h g = absurd (omega arith)
differ-small (suc zero) (suc (suc b)) h g = absurd (omega arith)
differ-small (suc (suc a)) b h g = absurd (omega arith)

odd-xor : (a b : ℕ) → odd (bit_xor a b) ≡ xor (odd a) (odd b)
unfolding odd
odd-xor a b =
    let two : 0 < 2 = zero-lt-suc 1 in
    let last : bit_xor a b % 2 ≡ differ (a % 2) (b % 2) =
    ap (λ n. n % 2) (xor_step a b) ∙ mul-add-mod_self_right (bit_xor (a / 2) (b / 2)) 2 (differ (a % 2) (b % 2))
    ∙ differ-small (a % 2) (b % 2) (mod-lt a two) (mod-lt b two) in
    ap (λ n. eqb n 1) last ∙ xor-small (a % 2) (b % 2) (mod-lt a two) (mod-lt b two)

-- the bits of an exclusive or are the exclusive or of the bits
pub xor-bits : (w a b : ℕ) → to_bits w (bit_xor a b) ≡ zip_with xor (to_bits w a) (to_bits w b)
unfolding to_bits zip_with
xor-bits zero a b = refl
xor-bits (suc w) a b = ap₂ (λ x y. x ∷ y) (ap odd (xor_shr a b w) ∙ odd-xor (a / 2 ^ w) (b / 2 ^ w)) (xor-bits w a b)

-- ---- shifts

module _ (k : ℕ) (h : k ≤ state_width) (x : ℕ) where
  sum : state_width ≡ state_width - k + k
  sum = omega arith

  turned : state_width ≡ k + (state_width - k)
  turned = omega arith

  left-moved : to_bits state_width (x * 2 ^ k % 2 ^ state_width) ≡ moved_left k (to_bits state_width x)
  left-moved =
      let lower = to_bits (state_width - k) x in
      let dropped : drop k (to_bits state_width x) ≡ lower =
      ap (λ w. drop k (to_bits w x)) turned ∙ ap (drop k) (to_bits-split k (state_width - k) x)
      ∙ drop_at (to_bits k (x / 2 ^ (state_width - k))) lower k (length-to_bits k (x / 2 ^ (state_width - k))) in
      to_bits-mod state_width (x * 2 ^ k) ∙ ap₂ to_bits sum (sym (add-zero (x * 2 ^ k))) ∙ to_bits-join (state_width - k) k x {r = 0} (pow_pos k)
      ∙ ap₂ (λ a b. a ++ b) (sym dropped) (to_bits-zero k)

  right-moved : x < 2 ^ state_width → to_bits state_width (x / 2 ^ k) ≡ moved_right k (to_bits state_width x)
  right-moved g =
      let upper = to_bits (state_width - k) (x / 2 ^ k) in
      let taken : take (state_width - k) (to_bits state_width x) ≡ upper =
      ap (λ w. take (state_width - k) (to_bits w x)) sum ∙ ap (take (state_width - k)) (to_bits-split (state_width - k) k x)
      ∙ take_at upper (to_bits k x) (state_width - k) (length-to_bits (state_width - k) (x / 2 ^ k)) in
      let none : x / 2 ^ k / 2 ^ (state_width - k) ≡ 0 =
      shr-shr x k (state_width - k) ∙ ap (λ w. x / 2 ^ w) (sym turned) ∙ div-eq_of_lt g in
      ap (λ w. to_bits w (x / 2 ^ k)) turned ∙ to_bits-split k (state_width - k) (x / 2 ^ k)
      ∙ ap₂ (λ a b. a ++ b) (ap (to_bits k) none ∙ to_bits-zero k)
      (sym taken ∙ ap (λ n. take (n - k) (to_bits state_width x)) (sym (length-to_bits state_width x)))

  left-row : to_bits state_width (shift_left k x) ≡ combined (moved_left k) (to_bits state_width x)
  left-row = xor-bits state_width x (x * 2 ^ k % 2 ^ state_width) ∙ ap (zip_with xor (to_bits state_width x)) left-moved

  right-row : x < 2 ^ state_width → to_bits state_width (shift_right k x) ≡ combined (moved_right k) (to_bits state_width x)
  right-row g = xor-bits state_width x (x / 2 ^ k) ∙ ap (zip_with xor (to_bits state_width x)) (right-moved g)

-- the next draw, bit by bit
pub xorshift-row : (x : ℕ) → x < 2 ^ state_width → to_bits state_width (xorshift x) ≡ next_row (to_bits state_width x)
unfolding xorshift next_row
xorshift-row x h =
    let a = shift_left 13 x in
    let b = shift_right 17 a in
    left-row 5 (omega arith) b
    ∙ ap (combined (moved_left 5)) (right-row 17 (omega arith) a (left-fits x h 13) ∙ ap (combined (moved_right 17)) (left-row 13 (omega arith) x))
