-- A list of what a function has at each number below another, and an array that a loop fills with it.
-- Assumes nothing.
use Prim.Native.Nat.{ℕ, zero, suc, ◌+◌, ◌≤◌, ◌<◌}
use native.Mathlib.Omega.{arith}
use native.Mathlib.Nat.{eq-or-lt_of_le}
use mathlib.Core.Path.{◌≡◌, refl, sym, ap, ◌∙◌, subst}
use mathlib.Core.Logic.{◌⊎◌, inl, inr, ⊎_elim, ◌≢◌}
use mathlib.Core.List.{List}
use lib.ListN.{length, get_or, set, length-set}
use lib.Seq.{get_or-set_same, get_or-set_other, ext_get_or}
use borrow.Author.Count.{below_more}
use Rattle.model.proofs.Tests.{le-or-lt}
use Rattle.unit.specs.Rows.{tabulate}

pub tabulate-length : {A : Type 0} (n : ℕ) (f : ℕ → A) → length (tabulate n f) ≡ n
unfolding tabulate
tabulate-length zero f = refl
tabulate-length (suc n) f = ap suc (tabulate-length n (λ i. f (suc i)))

pub tabulate-at : {A : Type 0} (n : ℕ) (f : ℕ → A) (i : ℕ) (d : A) → i < n → get_or (tabulate n f) i d ≡ f i
unfolding tabulate
tabulate-at zero f i d h = absurd (omega arith)
tabulate-at (suc n) f zero d h = refl
tabulate-at (suc n) f (suc i) d h = tabulate-at n (λ j. f (suc j)) i d (omega arith)

pub same_or_not : (i j : ℕ) → (i ≡ j) ⊎ (i ≢ j)
same_or_not i j =
    ⊎_elim
    (λ (h : i ≤ j). ⊎_elim (λ (e : i ≡ j). inl e) (λ (l : i < j). inr (λ e. absurd (omega arith))) (eq-or-lt_of_le {n = i} {m = j} h))
    (λ (h : j < i). inr (λ e. absurd (omega arith)))
    (le-or-lt i j)

module _ {A : Type 0} (n : ℕ) (f g : ℕ → A) (d : A) where
  -- another function, that differs at one number
  pub tabulate-set : (o : ℕ) → o < n → ((p : ℕ) → p < n → p ≢ o → g p ≡ f p) → tabulate n g ≡ set (tabulate n f) o (g o)
  tabulate-set o h w =
      ext_get_or d (tabulate n g) (set (tabulate n f) o (g o)) (tabulate-length n g ∙ sym (length-set (tabulate n f) o (g o) ∙ tabulate-length n f))
      (λ i b.
      let l : i < n = omega (arith, tabulate-length n g) in
      tabulate-at n g i d l
      ∙ ⊎_elim
      (λ (e : i ≡ o). ap g e ∙ sym (ap (λ k. get_or (set (tabulate n f) o (g o)) k d) e ∙ get_or-set_same (tabulate n f) o (g o) d (omega (arith, tabulate-length n f))))
      (λ (e : i ≢ o). w i l e ∙ sym (get_or-set_other (tabulate n f) o i (g o) d e ∙ tabulate-at n f i d l))
      (same_or_not i o))

  -- or at none
  pub tabulate-same : ((p : ℕ) → p < n → g p ≡ f p) → tabulate n g ≡ tabulate n f
  tabulate-same w =
      ext_get_or d (tabulate n g) (tabulate n f) (tabulate-length n g ∙ sym (tabulate-length n f))
      (λ i b. let l : i < n = omega (arith, tabulate-length n g) in tabulate-at n g i d l ∙ w i l ∙ sym (tabulate-at n f i d l))

-- a list of that length that has the function's value at each number
pub tabulated : {A : Type 0} (n : ℕ) (f : ℕ → A) (d : A) (l : List A) → length l ≡ n → ((k : ℕ) → k < n → get_or l k d ≡ f k) → l ≡ tabulate n f
tabulated n f d l e w =
    ext_get_or d l (tabulate n f) (e ∙ sym (tabulate-length n f))
    (λ k b. let h : k < n = omega (arith, e) in w k h ∙ sym (tabulate-at n f k d h))

-- ---- a list that is stored element by element

-- what is so of each below i, and of what is stored at i
pub stored_more : {A : Type 0} (P : ℕ → A → Type 0) (l : List A) (i : ℕ) (v d : A) → i < length l → ((k : ℕ) → k < i → P k (get_or l k d)) → P i v
    → (k : ℕ) → k < i + 1 → P k (get_or (set l i v) k d)
stored_more P l i v d h old new =
    below_more (λ k. P k (get_or (set l i v) k d)) i
    (λ k b. subst (P k) (sym (get_or-set_other l i k v d (λ e. omega arith))) (old k b)) (subst (P i) (sym (get_or-set_same l i v d h)) new)
