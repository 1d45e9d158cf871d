-- What is appended: one field, the sets of one subject more.
-- Assumes nothing.
use mathlib.Core.Path.{◌≡◌, refl, sym, ap, ◌∙◌}
use mathlib.Core.List.{List, [], ◌∷◌, ◌++◌, append_assoc, append-nil}
use Prim.Native.Nat.{ℕ, zero, suc, ◌+◌, ◌*◌, ◌≤◌, ◌<◌, min}
use native.Mathlib.Nat.{not-suc-le-zero, le_of_suc-le-suc}
use native.Mathlib.Numerals.{add-one}
use native.Mathlib.Omega.{arith}
use lib.ListN.{length, take, get_or}
use lib.Seq.{take_all}
use Rattle.bits.specs.Bits.{to_bits, waiting, stored}
use mathlib.Core.Bool.{Bool}
use Rattle.bits.specs.Stream.{Appends, appends}
use Rattle.model.specs.Layout.{image_size, set_width, sets_bits}

-- what the function of bits that appends a field ensures, as a law of the stream
appended : (s t : List ℕ) (at acc w x rest : ℕ) → w ≤ 8 → at + w ≤ 8 * length s → (rest ≡ waiting acc w x) × (t ≡ stored s at acc w x)
    → Appends s at acc (to_bits w x) t (at + w) rest
appended s t at acc w x rest hw h e = rw (e.0, e.1) (appends s at acc w x hw h)

-- the same where the width is not known, but is at most 8
pub appended-less : (s t : List ℕ) (at acc w x rest : ℕ) → w ≤ 8 → at + w ≤ 8 * length s → (rest ≡ waiting acc (min w 8) x) × (t ≡ stored s at acc (min w 8) x)
    → Appends s at acc (to_bits w x) t (at + w) rest
appended-less s t at acc w x rest hw h e =
    let m : min w 8 ≡ w = omega arith in
    appended s t at acc w x rest hw h (e.0 ∙ ap (λ k. waiting acc k x) m, e.1 ∙ ap (λ k. stored s at acc k x) m)

-- the room that is left behind n bits
pub left : {s t : List ℕ} {at acc to rest : ℕ} {b : List Bool} (n k : ℕ) → Appends s at acc b t to rest → to ≡ at + n
    → (at + (n + k) ≤ 8 * image_size) × (image_size ≤ length s) → (to + k ≤ 8 * image_size) × (image_size ≤ length t)
left n k A e r = (omega (arith, e, r.0), omega (arith, A.size, r.1))

-- one subject more
sets-suc : (i : ℕ) (r h : List ℕ) → i < length r → i < length h
    → sets_bits (take i r) (take i h) ++ (to_bits set_width (get_or r i 0) ++ to_bits set_width (get_or h i 0)) ≡ sets_bits (take (suc i) r) (take (suc i) h)
unfolding sets_bits
sets-suc i [] h p q = absurd (not-suc-le-zero p)
sets-suc i (x ∷ r) [] p q = absurd (not-suc-le-zero q)
sets-suc zero (x ∷ r) (y ∷ h) p q = sym (append-nil (to_bits set_width x ++ to_bits set_width y))
sets-suc (suc i) (x ∷ r) (y ∷ h) p q = rw (← sets-suc i r h (le_of_suc-le-suc p) (le_of_suc-le-suc q)) (simp append_assoc)

pub sets_more : (i : ℕ) (r h : List ℕ) → i < length r → i < length h
    → sets_bits (take i r) (take i h) ++ (to_bits set_width (get_or r i 0) ++ to_bits set_width (get_or h i 0)) ≡ sets_bits (take (i + 1) r) (take (i + 1) h)
sets_more i r h p q = rw (add-one i) (sets-suc i r h p q)

pub all-sets : (i : ℕ) (r h : List ℕ) → i ≡ 16 → length r ≡ 16 → length h ≡ 16 → sets_bits (take i r) (take i h) ≡ sets_bits r h
all-sets i r h e p q = rw (take_all i r (omega arith), take_all i h (omega arith))

pub no-sets : [] ≡ sets_bits [] []
unfolding sets_bits
no-sets = refl
