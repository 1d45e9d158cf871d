-- The chain of parents as it is gone up, one object at a time, and the tests over all objects.
-- Assumes nothing.
use Prim.Native.Nat.{ℕ, zero, suc, ◌+◌, ◌-◌, ◌≤◌, ◌<◌}
use native.Mathlib.Omega.{arith}
use mathlib.Core.Path.{◌≡◌, refl, sym, ap, ap₂, ◌∙◌}
use mathlib.Core.Bool.{Bool, true, false, ◌&&◌, ◌||◌}
use mathlib.Core.List.{List, [], ◌∷◌}
use mathlib.Core.Logic.{◌≢◌}
use Rattle.std.proofs.Common.{Some, None}
use Rattle.std.specs.List.{list_all, list_any, range_with_len}
use lib.ListN.{length}
use lib.Dec.{eqb}
use borrow.Author.Tests.{eq-eqb, ne_eqb}
use Rattle.model.specs.Levels.{Label, present, dominates}
use Rattle.model.specs.declared.Object.{Object}
use Rattle.model.specs.Tests.{all_below, all_of, implies}
use Rattle.model.specs.State.{no_object, object_at}
use Rattle.model.specs.Hierarchy.{parent_at, meets, ends, has_child, parent_live, parents_hold, label_under}
use Rattle.model.proofs.Tests.{or_left, beyond}
use Rattle.unit.specs.Rows.{Rows, object_in, objects_in}
use Rattle.unit.proofs.Tabulated.{tabulate-length}
use Rattle.hierarchy.specs.Parents.{numbered}
use Rattle.hierarchy.specs.Removed.{child_of}

-- a number from 64 on is that of no object
pub objects-length : (u : Rows) → length (objects_in u) ≡ 64
objects-length u = tabulate-length 64 (object_in u)

pub none-beyond : (u : Rows) (y : ℕ) → 64 ≤ y → object_at (objects_in u) y ≡ no_object
none-beyond u y h = beyond (objects_in u) y no_object (omega (arith, h, objects-length u))

-- ---- a parent as a record has it

pub none-out : (p : ℕ) → None ≡ numbered p → p ≡ 0
none-out zero e = refl
none-out (suc p) e = let z : ◌≡◌ {A = ℕ} 0 1 = cc in absurd (omega (arith, z))

pub some-out : (p k : ℕ) → Some k ≡ numbered p → p ≡ suc k
some-out zero k e = let z : ◌≡◌ {A = ℕ} 0 1 = cc in absurd (omega (arith, z))
some-out (suc p) k e = let z : k ≡ p = cc in omega (arith, z)

module _ (l : List Object) where
  -- ---- of a parent, "number plus one"

  pub parent-live-at : (p : ℕ) → 0 < p → parent_live l p ≡ (object_at l (p - 1)).live
  unfolding parent_live
  parent-live-at zero h = absurd (omega arith)
  parent-live-at (suc p) h = let e : p ≡ suc p - 1 = omega arith in ap (λ (k : ℕ). (object_at l k).live) e

  pub label-under-at : (a : Label) (p : ℕ) → 0 < p → label_under l a p ≡ implies (present a) (dominates a (object_at l (p - 1)).label)
  unfolding label_under
  label-under-at a zero h = absurd (omega arith)
  label-under-at a (suc p) h = let e : p ≡ suc p - 1 = omega arith in ap (λ (k : ℕ). implies (present a) (dominates a (object_at l k).label)) e

  -- ---- whether a chain ends: at an object without a parent, else one object further

  pub ends-none : (n y : ℕ) → 0 < n → None ≡ numbered (parent_at l y) → ends n l (suc y) ≡ true
  unfolding ends
  ends-none zero y h e = absurd (omega arith)
  ends-none (suc zero) y h e = ap (ends 0 l) (none-out _ e)
  ends-none (suc (suc n)) y h e = ap (ends (suc n) l) (none-out _ e)

  pub ends-some : (n m y p : ℕ) → n ≡ suc m → Some p ≡ numbered (parent_at l y) → ends m l (suc p) ≡ ends n l (suc y)
  unfolding ends
  ends-some zero m y p h e = absurd (omega (arith, h))
  ends-some (suc n) m y p h e = let z : m ≡ n = omega (arith, h) in ap₂ (λ (i k : ℕ). ends i l k) z (sym (some-out _ p e))

  pub ends-never : (y : ℕ) → ends 0 l (suc y) ≡ false
  unfolding ends
  ends-never y = refl

  -- ---- whether object o is met above y: at the parent, else further

  module _ (o : ℕ) where
    pub meets-never : (p : ℕ) → meets 0 l o p ≡ false
    unfolding meets
    meets-never p = refl

    pub meets-none : (n y : ℕ) → None ≡ numbered (parent_at l y) → meets n l o (parent_at l y) ≡ false
    unfolding meets
    meets-none zero y e = refl
    meets-none (suc n) y e = ap (meets (suc n) l o) (none-out _ e)

    pub meets-here : (n y p : ℕ) → 0 < n → Some p ≡ numbered (parent_at l y) → p ≡ o → meets n l o (parent_at l y) ≡ true
    unfolding meets
    meets-here zero y p h e q = absurd (omega arith)
    meets-here (suc n) y p h e q = ap (meets (suc n) l o) (some-out _ p e) ∙ or_left (eqb p o) _ (eq-eqb p o q)

    pub meets-past : (n m y p : ℕ) → n ≡ suc m → Some p ≡ numbered (parent_at l y) → p ≢ o → meets m l o (parent_at l p) ≡ meets n l o (parent_at l y)
    unfolding meets
    meets-past zero m y p h e q = absurd (omega (arith, h))
    meets-past (suc n) m y p h e q =
        let z : m ≡ n = omega (arith, h) in
        ap (λ (i : ℕ). meets i l o (parent_at l p)) z ∙ sym (ap (λ (t : Bool). t || meets n l o (parent_at l p)) (ne_eqb p o q))
        ∙ sym (ap (meets (suc n) l o) (some-out _ p e))

-- ---- over all objects by their numbers

-- those of l from place a on
any-from : (l : List Object) (f : ℕ → Bool) (o a : ℕ) → ((k : ℕ) → k < length l → f (a + k) ≡ child_of (object_at l k) o)
    → list_any f (range_with_len a (length l)) ≡ has_child l o
unfolding has_child
any-from [] f o a h = refl
any-from (ob ∷ l) f o a h =
    let z : a ≡ a + 0 = omega arith in
    ap₂ ◌||◌ (ap f z ∙ h 0 (omega arith))
    (any-from l f o (a + 1) (λ k b. let e : a + 1 + k ≡ a + suc k = omega arith in ap f e ∙ h (suc k) (omega arith)))

pub any-child : (l : List Object) (o : ℕ) → list_any (λ k. child_of (object_at l k) o) (range_with_len 0 (length l)) ≡ has_child l o
any-child l o = any-from l _ o 0 (λ k h. let z : 0 + k ≡ k = omega arith in ap (λ (i : ℕ). child_of (object_at l i) o) z)

all-from : (t : Object → Bool) (l : List Object) (f : ℕ → Bool) (a : ℕ) → ((k : ℕ) → k < length l → f (a + k) ≡ t (object_at l k))
    → list_all f (range_with_len a (length l)) ≡ all_of t l
all-from t [] f a h = refl
all-from t (ob ∷ l) f a h =
    let z : a ≡ a + 0 = omega arith in
    ap₂ ◌&&◌ (ap f z ∙ h 0 (omega arith))
    (all-from t l f (a + 1) (λ k b. let e : a + 1 + k ≡ a + suc k = omega arith in ap f e ∙ h (suc k) (omega arith)))

pub all-objects : (t : Object → Bool) (l : List Object) → list_all (λ k. t (object_at l k)) (range_with_len 0 (length l)) ≡ all_of t l
all-objects t l = all-from t l _ 0 (λ k h. let z : 0 + k ≡ k = omega arith in ap (λ (i : ℕ). t (object_at l i)) z)

-- ---- every parent live and every chain ended, object by object

-- two tests at each number
both-pass : (f g : ℕ → Bool) (xs : List ℕ) → list_all (λ k. f k && g k) xs ≡ (list_all f xs && list_all g xs)
both-pass f g [] = refl
both-pass f g (x ∷ xs) = ap (λ (b : Bool). (f x && g x) && b) (both-pass f g xs) ∙ four (f x) (g x) (list_all f xs) (list_all g xs)
  where
    four : (a b c d : Bool) → ((a && b) && (c && d)) ≡ ((a && c) && (b && d))
    four true true c d = refl
    four true false true d = refl
    four true false false d = refl
    four false b c d = refl

-- the numbers below n, counted from the other end
range-more : (f : ℕ → Bool) (n a : ℕ) → list_all f (range_with_len a (suc n)) ≡ (list_all f (range_with_len a n) && f (a + n))
range-more f zero a = let z : a ≡ a + 0 = omega arith in and-last (f a) ∙ ap f z
  where
    and-last : (b : Bool) → (b && true) ≡ b
    and-last true = refl
    and-last false = refl
range-more f (suc n) a =
    let z : a + 1 + n ≡ a + suc n = omega arith in
    ap (λ (b : Bool). f a && b) (range-more f n (a + 1) ∙ ap (λ (k : ℕ). list_all f (range_with_len (a + 1) n) && f k) z) ∙ three (f a) _ (f (a + suc n))
  where
    three : (b c d : Bool) → (b && (c && d)) ≡ ((b && c) && d)
    three true c d = refl
    three false c d = refl

range-below : (f : ℕ → Bool) (n : ℕ) → list_all f (range_with_len 0 n) ≡ all_below n f
range-below f zero = refl
range-below f (suc n) = let z : 0 + n ≡ n = omega arith in range-more f n 0 ∙ ap₂ (λ (b : Bool) (k : ℕ). b && f k) (range-below f n) z

pub all_hold : (l : List Object) → length l ≡ 64
    → list_all (λ o. parent_live l (object_at l o).parent && ends 64 l (suc o)) (range_with_len 0 64) ≡ parents_hold l
unfolding parents_hold
all_hold l n =
    both-pass (λ o. parent_live l (object_at l o).parent) (λ o. ends 64 l (suc o)) (range_with_len 0 64)
    ∙ ap₂ ◌&&◌
    (ap (λ (k : ℕ). list_all (λ o. parent_live l (object_at l o).parent) (range_with_len 0 k)) (sym n) ∙ all-objects (λ ob. parent_live l ob.parent) l)
    (range-below (λ o. ends 64 l (suc o)) 64)
