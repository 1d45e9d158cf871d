-- The objects that are met above another: in two lists of objects, and above a child.
-- Assumes nothing.
use Prim.Native.Nat.{ℕ, zero, suc, ◌+◌, ◌≤◌, ◌<◌}
use native.Mathlib.Omega.{arith}
use mathlib.Core.Path.{◌≡◌, refl, sym, ap, ◌∙◌, subst}
use mathlib.Core.Logic.{◌⊎◌, inl, inr, ⊎_elim}
use mathlib.Core.Bool.{Bool, true, false}
use mathlib.Core.List.{List, [], ◌∷◌}
use lib.ListN.{length}
use lib.Dec.{eqb}
use borrow.Author.Tests.{eqb-true, eq-eqb}
use Rattle.bits.specs.Bits.{bit}
use Rattle.model.specs.declared.Object.{Object}
use Rattle.model.specs.State.{object_at}
use Rattle.model.specs.Hierarchy.{parent_at, Meets, here, further, Below, below}
use Rattle.model.proofs.Tests.{split, clash, or_cases, or_left, or_right, cond-false}
use Rattle.model.proofs.Hierarchy.{meets-decides}
use Rattle.hierarchy.specs.Removed.{gone}

-- ---- chains

-- where there is no object, none is met
pub meets-none : {A : Type 0} (l : List Object) (o p : ℕ) → Meets l o p → p ≡ 0 → A
meets-none l o p here e = absurd (omega arith)
meets-none l o p (further y h) e = absurd (omega arith)

-- what is met by the parents that are left was met by those that were there
pub meets-before : (l m : List Object) (o : ℕ) → ((y : ℕ) → (parent_at m y ≡ 0) ⊎ (parent_at m y ≡ parent_at l y)) → (p : ℕ) → Meets m o p → Meets l o p
meets-before l m o h p here = here
meets-before l m o h p (further y k) =
    ⊎_elim (λ e. meets-none m o (parent_at m y) k e) (λ e. further y (subst (Meets l o) e (meets-before l m o h (parent_at m y) k))) (h y)

-- where a child is met, its parent is
pub meets-parent : (l : List Object) (o c : ℕ) → parent_at l c ≡ suc o → (p : ℕ) → Meets l c p → Meets l o p
meets-parent l o c e p here = further c (subst (Meets l o) (sym e) here)
meets-parent l o c e p (further y k) = further y (meets-parent l o c e (parent_at l y) k)

-- what has a parent is live
pub parent-of-live : (l : List Object) (y x : ℕ) → parent_at l y ≡ suc x → (object_at l y).live ≡ true
parent-of-live l y x e =
    split (object_at l y).live (λ t. t) (λ f. let z = sym (cond-false (object_at l y).live (object_at l y).parent 0 f) ∙ e in absurd (omega (arith, z)))

-- ---- what goes with object o

abbrev pub Goes : List Object → ℕ → ℕ → Type 0
Goes l o y = (y ≡ o) ⊎ Below l o y

module _ (l : List Object) (n : length l ≡ 64) (o : ℕ) (h : o < 64) where
  pub gone-out : (y : ℕ) → gone l o y ≡ true → Goes l o y
  gone-out y e =
      or_cases (eqb y o) (below l o y) e (λ w. inl (eqb-true y o w)) (λ w. inr ((meets-decides l (omega (arith, n)) o h (parent_at l y)).0 w))

  pub gone-in : (y : ℕ) → Goes l o y → gone l o y ≡ true
  gone-in y g =
      ⊎_elim (λ e. or_left (eqb y o) (below l o y) (eq-eqb y o e))
      (λ w. or_right (eqb y o) (below l o y) ((meets-decides l (omega (arith, n)) o h (parent_at l y)).1 w)) g

-- ---- how many objects are live

pub live_count : List Object → ℕ
live_count [] = 0
live_count (ob ∷ l) = bit ob.live + live_count l

fewer-bit : (a b : Bool) → (b ≡ true → a ≡ true) → bit b ≤ bit a
fewer-bit true true h = omega arith
fewer-bit true false h = omega arith
fewer-bit false true h = clash (sym (h refl))
fewer-bit false false h = omega arith

not_more : (l m : List Object) → length l ≡ length m → ((j : ℕ) → (object_at m j).live ≡ true → (object_at l j).live ≡ true) → live_count m ≤ live_count l
unfolding live_count
not_more [] [] n h = omega arith
not_more [] (y ∷ m) n h = absurd (omega arith)
not_more (x ∷ l) [] n h = absurd (omega arith)
not_more (x ∷ l) (y ∷ m) n h =
    omega (arith, fewer-bit x.live y.live (h 0), not_more l m (omega arith) (λ j. h (suc j)))

-- what is live was live, and one that was live is not
pub live-fewer : (l m : List Object) → length l ≡ length m → ((j : ℕ) → (object_at m j).live ≡ true → (object_at l j).live ≡ true)
    → (o : ℕ) → (object_at l o).live ≡ true → (object_at m o).live ≡ false → live_count m < live_count l
unfolding live_count
live-fewer [] [] n h o a b = clash (sym a)
live-fewer [] (y ∷ m) n h o a b = absurd (omega arith)
live-fewer (x ∷ l) [] n h o a b = absurd (omega arith)
live-fewer (x ∷ l) (y ∷ m) n h zero a b = omega (arith, ap bit a, ap bit b, not_more l m (omega arith) (λ j. h (suc j)))
live-fewer (x ∷ l) (y ∷ m) n h (suc o) a b =
    omega (arith, fewer-bit x.live y.live (h 0), live-fewer l m (omega arith) (λ j. h (suc j)) o a b)
