-- Records that are read one after the other into an array: one more, and all of them.
-- Assumes nothing.
use mathlib.Core.Path.{◌≡◌, refl, sym, ap, ◌∙◌}
use mathlib.Core.Bool.{Bool, true, ◌&&◌}
use mathlib.Core.List.{List, [], ◌∷◌, ◌++◌, map}
use Prim.Native.Nat.{ℕ, zero, suc, ◌+◌, ◌*◌, ◌<◌}
use native.Mathlib.Numerals.{add-one}
use native.Mathlib.Omega.{arith}
use lib.ListN.{length, get_or, take, drop, set}
use lib.Seq.{take_all, take-suc-set}
use Rattle.bits.specs.Bits.{cut}
use Rattle.bits.specs.Records.{cut_at, cut-more, cut-suc, length_cut}
use Rattle.model.specs.Tests.{all_of}
use Rattle.model.proofs.Tests.{split}

pub none-gathered : {A : Type 0} (f : List Bool → A) (w : ℕ) (b : List Bool) → [] ≡ map f (cut 0 w b)
unfolding cut
none-gathered f w b = refl

-- one record more
pub gather-more : {A : Type 0} (f : List Bool → A) (w : ℕ) (b : List Bool) (r : List A) (i : ℕ) (v : A) → i < length r → take i r ≡ map f (cut i w b)
    → v ≡ f (take w (drop (w * i) b)) → take (i + 1) (set r i v) ≡ map f (cut (i + 1) w b)
gather-more f w b r i v h e p =
    rw (cut-more f i w b, ← e, ← p) (ap (λ (n : ℕ). take n (set r i v)) (add-one i) ∙ take-suc-set r i v h)

-- all records
pub gathered : {A : Type 0} (f : List Bool → A) (n w : ℕ) (b : List Bool) (r : List A) (i : ℕ) → length r ≡ n → i ≡ n → take i r ≡ map f (cut i w b) → r ≡ map f (cut n w b)
gathered f n w b r i l e p =
    sym (take_all n r (omega arith)) ∙ ap (λ (k : ℕ). take k r) (sym e) ∙ p ∙ ap (λ (k : ℕ). map f (cut k w b)) e

-- what the record at i says
map_at : {A B : Type 0} (f : A → B) (l : List A) (i : ℕ) (d : B) (e : A) → i < length l → get_or (map f l) i d ≡ f (get_or l i e)
map_at f [] i d e h = absurd (omega arith)
map_at f (x ∷ l) zero d e h = refl
map_at f (x ∷ l) (suc i) d e h = map_at f l i d e (omega arith)

pub record-at : {A : Type 0} (f : List Bool → A) (n w : ℕ) (b : List Bool) (i : ℕ) (d : A) → i < n → get_or (map f (cut n w b)) i d ≡ f (take w (drop (w * i) b))
record-at f n w b i d h = map_at f (cut n w b) i d [] (omega (arith, length_cut n w b)) ∙ ap f (cut_at n w b i [] h)

-- the form of one record more
pub none-formed : (f : List Bool → Bool) (w : ℕ) (b : List Bool) → true ≡ all_of f (cut 0 w b)
unfolding cut
none-formed f w b = refl

pub form-more : (f : List Bool → Bool) (w : ℕ) (b : List Bool) (i : ℕ) (g v : Bool) → g ≡ all_of f (cut i w b) → v ≡ f (take w (drop (w * i) b))
    → (g && v) ≡ all_of f (cut (i + 1) w b)
form-more f w b i g v e p = rw (e, p, add-one i, cut-suc i w b) (sym (snoc (cut i w b) (take w (drop (w * i) b))))
  where
    snoc : (l : List (List Bool)) (x : List Bool) → all_of f (l ++ (x ∷ [])) ≡ (all_of f l && f x)
    snoc [] x = split (f x) (λ e. rw e) (λ e. rw e)
    snoc (y ∷ l) x = split (f y) (λ e. rw e (snoc l x)) (λ e. rw e)
