-- Sets of modes in a byte by the machine's bits, by a test over all 256 bytes.
-- Assumes nothing.
use Prim.Native.Nat.{ℕ, ◌-◌, ◌<◌}
use mathlib.Core.Path.{◌≡◌, refl}
use mathlib.Core.Bool.{Bool, true, not, beq}
use lib.Dec.{eqb}
use lib.Bits.{bit_and, bit_or}
use borrow.Author.Tests.{eqb-true}
use Rattle.model.specs.declared.Mode.{Mode}
use Rattle.model.specs.Tests.{all_below}
use Rattle.model.specs.Modes.{weight, has, add, remove, any_observes, any_alters, any_needs_label, any_held}
use Rattle.model.proofs.Tests.{below_out, same_bool}
use Rattle.model.proofs.Modes.{all_modes, modes-out}

-- a test at each mode and byte
bytes : (f : Mode → ℕ → Bool) → all_modes (λ x. all_below 256 (f x)) ≡ true → (x : Mode) (n : ℕ) → n < 256 → f x n ≡ true
bytes f e x n h = below_out 256 (f x) (modes-out (λ x. all_below 256 (f x)) e x) n h

pub has-and : (x : Mode) (n : ℕ) → n < 256 → not (eqb (bit_and n (weight x)) 0) ≡ has x n
unfolding has
has-and x n h = same_bool _ _ (bytes (λ x n. beq (not (eqb (bit_and n (weight x)) 0)) (has x n)) refl x n h)

pub add-or : (x : Mode) (n : ℕ) → n < 256 → bit_or n (weight x) ≡ add x n
unfolding has add
add-or x n h = eqb-true _ _ (bytes (λ x n. eqb (bit_or n (weight x)) (add x n)) refl x n h)

pub remove-and : (x : Mode) (n : ℕ) → n < 256 → bit_and n (255 - weight x) ≡ remove x n
unfolding has remove
remove-and x n h = eqb-true _ _ (bytes (λ x n. eqb (bit_and n (255 - weight x)) (remove x n)) refl x n h)

pub remove-minus : (x : Mode) (n : ℕ) → n < 256 → n - bit_and n (weight x) ≡ remove x n
unfolding has remove
remove-minus x n h = eqb-true _ _ (bytes (λ x n. eqb (n - bit_and n (weight x)) (remove x n)) refl x n h)

-- a test at each byte that some modes are in the set
pub some-and : (k : ℕ) (f : ℕ → Bool) → all_below 256 (λ n. beq (not (eqb (bit_and n k) 0)) (f n)) ≡ true
    → (n : ℕ) → n < 256 → not (eqb (bit_and n k) 0) ≡ f n
some-and k f e n h = same_bool _ _ (below_out 256 (λ n. beq (not (eqb (bit_and n k) 0)) (f n)) e n h)

pub observes-and : (n : ℕ) → n < 256 → not (eqb (bit_and n 12) 0) ≡ any_observes n
unfolding has
observes-and = some-and 12 any_observes refl

pub alters-and : (n : ℕ) → n < 256 → not (eqb (bit_and n 6) 0) ≡ any_alters n
unfolding has
alters-and = some-and 6 any_alters refl

pub needs-label-and : (n : ℕ) → n < 256 → not (eqb (bit_and n 14) 0) ≡ any_needs_label n
unfolding has
needs-label-and = some-and 14 any_needs_label refl

pub held-and : (n : ℕ) → n < 256 → not (eqb (bit_and n 15) 0) ≡ any_held n
unfolding has
held-and = some-and 15 any_held refl
