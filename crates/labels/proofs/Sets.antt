-- A set within another by the machine's bits, of needs or of modes, bit by bit.
-- Assumes nothing.
use Prim.Native.Nat.{ℕ, zero, suc, ◌+◌, ◌*◌, ◌/◌, ◌%◌, ◌^◌, ◌≤◌, ◌<◌, min}
use native.Mathlib.Nat.{pow-suc}
use native.Mathlib.Numerals.{add-one}
use native.Mathlib.Omega.{arith}
use mathlib.Core.Path.{◌≡◌, refl, sym, ap, ◌∙◌}
use mathlib.Core.Bool.{◌&&◌}
use lib.Dec.{leb, eqb}
use lib.Bits.{bit_and, and_step, and_zero_l}
use lib.Pow.{field, mod-mod-pow}
use borrow.Author.Tests.{eqb-true, eqb-false, eq-eqb, ne_eqb}
use Rattle.model.specs.Levels.{subset}
use Rattle.model.proofs.Tests.{split}

-- a number is kept exactly when its last bit and its half are
join-eqb : (x r b : ℕ) → r ≤ b % 2 → eqb (x * 2 + r) b ≡ (eqb r (b % 2) && eqb x (b / 2))
join-eqb x r b h =
    split (eqb r (b % 2))
    (λ e. split (eqb x (b / 2))
    (λ f. let p : r ≡ b % 2 = eqb-true r (b % 2) e in let q : x ≡ b / 2 = eqb-true x (b / 2) f in
    rw (e, f) (eq-eqb (x * 2 + r) b (omega arith)))
    (λ f. rw (e, f) (ne_eqb (x * 2 + r) b (λ w. eqb-false x (b / 2) f (omega arith)))))
    (λ e. rw e (ne_eqb (x * 2 + r) b (λ w. eqb-false r (b % 2) e (omega arith))))

digit : (p q : ℕ) → p < 2 → q < 2 → eqb (min p q) p ≡ leb p q
digit zero zero h g = refl
digit zero (suc zero) h g = refl
digit zero (suc (suc q)) h g = absurd (omega arith)
digit (suc zero) zero h g = refl
digit (suc zero) (suc zero) h g = refl
digit (suc zero) (suc (suc q)) h g = absurd (omega arith)
digit (suc (suc p)) q h g = absurd (omega arith)

pub subset-and : (k b a : ℕ) → b < 2 ^ k → eqb (bit_and b a) b ≡ subset k b a
subset-and zero b a h =
    let z : b ≡ 0 = omega arith in rw z (ap (λ (n : ℕ). eqb n 0) (and_zero_l a))
subset-and (suc k) b a h =
    let g : b / 2 < 2 ^ k = omega (arith, pow-suc 2 k) in
    let m : min (b % 2) (a % 2) ≤ b % 2 = omega arith in
    ap (λ (n : ℕ). eqb n b) (and_step b a)
    ∙ join-eqb (bit_and (b / 2) (a / 2)) (min (b % 2) (a % 2)) b m
    ∙ rw (digit (b % 2) (a % 2) (omega arith) (omega arith), subset-and k (b / 2) (a / 2) g)

-- what stands above the k bits does not matter
subset-mod : (k b a : ℕ) → subset k (b % 2 ^ k) a ≡ subset k b a
subset-mod zero b a = refl
subset-mod (suc k) b a =
    let p : b % 2 ^ suc k % 2 ≡ b % 2 = ap (λ (j : ℕ). b % 2 ^ j % 2) (sym (add-one k)) ∙ mod-mod-pow b k 1 in
    let q : b % 2 ^ suc k / 2 ≡ b / 2 % 2 ^ k = ap (λ (j : ℕ). b % 2 ^ j / 2) (sym (add-one k)) ∙ field b k 1 in
    rw (p, q, subset-mod k (b / 2) (a / 2))

pub within-and : (h r : ℕ) → eqb (bit_and (h % 16) r) (h % 16) ≡ subset 4 h r
within-and h r = subset-and 4 (h % 16) r (omega arith) ∙ subset-mod 4 h r
