-- The chain of parents above an object (change request §11): that no chain is longer than there are objects, so that the tests decide what they
-- are for; and what is left where all below an object is gone.
-- Assumes nothing.
use Prim.Native.Nat.{ℕ, zero, suc, ◌+◌, ◌<◌, ◌≤◌}
use native.Mathlib.Omega.{arith}
use mathlib.Core.Path.{◌≡◌, refl, sym, ap, ◌∙◌, subst}
use mathlib.Core.Logic.{◌↔◌, ⊎_elim}
use mathlib.Core.Bool.{Bool, true, false, cond}
use mathlib.Core.List.{List, [], ◌∷◌}
use lib.ListN.{length, get_or, set, replicate}
use lib.Seq.{get_or-set_other}
use lib.Dec.{eqb}
use borrow.Author.Tests.{eqb-true, eq-eqb}
use Rattle.model.specs.declared.Object.{Object}
use Rattle.model.specs.State.{object_count, no_object, object_at}
use Rattle.model.specs.Hierarchy.{parent_at, Meets, here, further, Ends, none, onward, meets, ends, below, without, without_below}
use Rattle.model.proofs.Tests.{split, clash, apart, or_cases, or_left, or_right, or-false, beyond, le-or-lt}

-- ---- what is left

pub without-length : (gone : ℕ → Bool) (i : ℕ) (l : List Object) → length (without gone i l) ≡ length l
unfolding without
without-length gone i [] = refl
without-length gone i (ob ∷ l) = ap suc (without-length gone (suc i) l)

none-at : (b : Bool) → no_object ≡ cond b no_object no_object
none-at true = refl
none-at false = refl

pub without_at : (gone : ℕ → Bool) (i : ℕ) (l : List Object) (j : ℕ) → object_at (without gone i l) j ≡ cond (gone (i + j)) no_object (object_at l j)
unfolding without
without_at gone i [] j = none-at (gone (i + j))
without_at gone i (ob ∷ l) zero = ap (λ (k : ℕ). cond (gone k) no_object ob) (omega arith)
without_at gone i (ob ∷ l) (suc j) = without_at gone (suc i) l j ∙ ap (λ (k : ℕ). cond (gone k) no_object (object_at l j)) (omega arith)

pub below-gone : (l : List Object) (o j : ℕ) → object_at (without_below o l) j ≡ cond (below l o j) no_object (object_at l j)
below-gone l o j = without_at (below l o) 0 l j ∙ ap (λ (k : ℕ). cond (below l o k) no_object (object_at l j)) (omega arith)

-- ---- no chain is longer than there are objects

-- how many of these tests are passed
count : List Bool → ℕ
count [] = 0
count (true ∷ l) = suc (count l)
count (false ∷ l) = count l

count_set : (l : List Bool) (o : ℕ) → get_or l o false ≡ true → suc (count (set l o false)) ≡ count l
unfolding count
count_set [] o e = clash (sym e)
count_set (true ∷ l) zero e = refl
count_set (false ∷ l) zero e = clash (sym e)
count_set (true ∷ l) (suc o) e = ap suc (count_set l o e)
count_set (false ∷ l) (suc o) e = count_set l o e

count-all : (n : ℕ) → count (replicate n true) ≡ n
unfolding count
count-all zero = refl
count-all (suc n) = ap suc (count-all n)

-- P k y: object y stands k steps below the end of its chain. Each stands so by one number, is one of n, and above it stands one by the number before
module _ (P : ℕ → ℕ → Type 0) (one : (j k y : ℕ) → P j y → P k y → j ≡ k) (next : (k y : ℕ) → P (suc k) y → (x : ℕ) × P k x) where
  -- all that stand so by k or less are still marked
  counted : (k y : ℕ) (marks : List Bool) → P k y → ((j z : ℕ) → j ≤ k → P j z → get_or marks z false ≡ true) → k < count marks
  counted zero y marks p h = let c = count_set marks y (h 0 y (omega arith) p) in omega (arith, c)
  counted (suc k) y marks p h =
      let up = next k y p in
      let c = count_set marks y (h (suc k) y (omega arith) p) in
      let r : k < count (set marks y false) =
      counted k up.0 (set marks y false) up.1 (λ j z b q.
      get_or-set_other marks y z false false (λ e. absurd (omega (arith, b, one j (suc k) y (subst (P j) e q) p))) ∙ h j z (omega arith) q) in
      omega (arith, c)

  pub steps-bounded : (n : ℕ) → ((k y : ℕ) → P k y → y < n) → (k y : ℕ) → P k y → k < n
  steps-bounded n h k y p =
      let c = counted k y (replicate n true) p (λ j z b q. replicate-true n z (h j z q)) in
      omega (arith, c, count-all n)
    where
      replicate-true : (n z : ℕ) → z < n → get_or (replicate n true) z false ≡ true
      replicate-true zero z b = absurd (omega arith)
      replicate-true (suc n) zero b = refl
      replicate-true (suc n) (suc z) b = replicate-true n z (omega arith)

-- ---- the tests decide

-- what a test finds is met
pub meets-sound : (n : ℕ) (l : List Object) (o p : ℕ) → meets n l o p ≡ true → Meets l o p
unfolding meets
meets-sound zero l o p e = clash (sym e)
meets-sound (suc n) l o zero e = clash (sym e)
meets-sound (suc n) l o (suc y) e =
    or_cases (eqb y o) _ e (λ w. subst (λ (k : ℕ). Meets l o (suc k)) (sym (eqb-true y o w)) here) (λ w. further y (meets-sound n l o (parent_at l y) w))

-- among the first n of a chain, and among more of it
meets-more : (n : ℕ) (l : List Object) (o p : ℕ) → meets n l o p ≡ true → meets (suc n) l o p ≡ true
unfolding meets
meets-more zero l o p e = clash (sym e)
meets-more (suc n) l o zero e = e
meets-more (suc n) l o (suc y) e =
    or_cases (eqb y o) _ e (λ w. or_left (eqb y o) _ w) (λ w. or_right (eqb y o) _ (meets-more n l o (parent_at l y) w))

-- a chain that ends has a number of objects
pub ends_found : (l : List Object) (p : ℕ) → Ends l p → (n : ℕ) × (ends n l p ≡ true)
unfolding ends
ends_found l p none = (0, refl)
ends_found l p (onward z h) = let r = ends_found l (parent_at l z) h in (suc r.0, r.1)

pub ends_more : (n : ℕ) (l : List Object) (p : ℕ) → ends n l p ≡ true → ends (suc n) l p ≡ true
unfolding ends
ends_more zero l zero e = refl
ends_more zero l (suc y) e = clash (sym e)
ends_more (suc n) l zero e = refl
ends_more (suc n) l (suc y) e = ends_more n l (parent_at l y) e

-- a test of a number that stays passed
module _ (f : ℕ → Bool) (h : (n : ℕ) → f n ≡ true → f (suc n) ≡ true) where
  more : (n k : ℕ) → n ≤ k → f n ≡ true → f k ≡ true
  more n zero b e = subst (λ (i : ℕ). f i ≡ true) (omega arith) e
  more n (suc k) b e =
      ⊎_elim (λ (w : suc k ≤ n). subst (λ (i : ℕ). f i ≡ true) (omega (arith, b)) e) (λ (w : n < suc k). h k (more n k (omega arith) e)) (le-or-lt (suc k) n)

  -- there is one number before which it is not
  one-first : (j k : ℕ) → (f j ≡ false) × (f (suc j) ≡ true) → (f k ≡ false) × (f (suc k) ≡ true) → j ≡ k
  one-first j k p q =
      ⊎_elim
      (λ (w : j ≤ k). ⊎_elim (λ (v : k ≤ j). omega (arith, w, v)) (λ (v : j < k). apart (more (suc j) k v p.1) q.0) (le-or-lt k j))
      (λ (w : k < j). apart (more (suc k) j w q.1) p.0) (le-or-lt j k)

-- a test that is passed from a number on: that number
first-true : (f : ℕ → Bool) → f 0 ≡ false → (n : ℕ) → f n ≡ true → (k : ℕ) × ((f k ≡ false) × (f (suc k) ≡ true))
first-true f z zero e = apart e z
first-true f z (suc n) e = split (f n) (λ w. first-true f z n w) (λ w. (n, (w, e)))

module _ (l : List Object) (short : length l ≤ object_count) where
  -- beyond the list is no object, and so no parent
  pub no-parent-beyond : (y : ℕ) → object_count ≤ y → parent_at l y ≡ 0
  no-parent-beyond y b = ap (λ (ob : Object). cond ob.live ob.parent 0) (beyond l y no_object (omega (arith, b, short)))

  -- a live object is one of those that there are
  pub live-in : (y : ℕ) → (object_at l y).live ≡ true → y < object_count
  live-in y e = ⊎_elim (λ (b : object_count ≤ y). apart e (ap (λ (ob : Object). ob.live) (beyond l y no_object (omega (arith, b, short))))) (λ b. b) (le-or-lt object_count y)

  module _ (o : ℕ) (there : o < object_count) where
    -- object o is met as object k behind y, and not before
    MetAt : ℕ → ℕ → Type 0
    MetAt k y = (meets k l o (suc y) ≡ false) × (meets (suc k) l o (suc y) ≡ true)

    met_next : (k y : ℕ) → MetAt (suc k) y → (x : ℕ) × MetAt k x
    unfolding MetAt meets
    met_next k y p =
        let off = or-false (eqb y o) _ p.0 in
        go (parent_at l y) off.1 (or_cases (eqb y o) _ p.1 (λ w. apart w off.0) (λ w. w))
      where
        go : (q : ℕ) → meets k l o q ≡ false → meets (suc k) l o q ≡ true → (x : ℕ) × MetAt k x
        go zero a b = clash (sym b)
        go (suc x) a b = (x, (a, b))

    met-in : (k y : ℕ) → MetAt k y → y < object_count
    unfolding MetAt meets
    met-in k y p =
        ⊎_elim
        (λ (b : object_count ≤ y). or_cases (eqb y o) _ p.1
        (λ w. absurd (omega (arith, b, there, eqb-true y o w)))
        (λ w. none-met k (subst (λ (q : ℕ). meets k l o q ≡ true) (no-parent-beyond y b) w)))
        (λ b. b) (le-or-lt object_count y)
      where
        none-met : {A : Type 0} (n : ℕ) → meets n l o 0 ≡ true → A
        none-met zero e = clash (sym e)
        none-met (suc n) e = clash (sym e)

    -- what is met is met among as many objects as there are
    met-soon : (n y : ℕ) → meets n l o (suc y) ≡ true → meets object_count l o (suc y) ≡ true
    unfolding MetAt meets
    met-soon n y e =
        let m : (k : ℕ) → meets k l o (suc y) ≡ true → meets (suc k) l o (suc y) ≡ true = λ k. meets-more k l o (suc y) in
        let f = first-true (λ (k : ℕ). meets k l o (suc y)) none_first n e in
        let b : f.0 < object_count = steps-bounded MetAt (λ j k z. one-first (λ (i : ℕ). meets i l o (suc z)) (λ i. meets-more i l o (suc z)) j k) met_next object_count met-in f.0 y f.1 in
        more (λ (k : ℕ). meets k l o (suc y)) m (suc f.0) object_count b f.1.1
      where
        none_first : meets 0 l o (suc y) ≡ false
        none_first = refl

    pub meets-decides : (p : ℕ) → (meets object_count l o p ≡ true) ↔ Meets l o p
    unfolding meets
    meets-decides p = (meets-sound object_count l o p, λ h. let e = found p h in whole p e.0 e.1)
      where
        found : (p : ℕ) → Meets l o p → (n : ℕ) × (meets n l o p ≡ true)
        found p here = (1, or_left (eqb o o) _ (eq-eqb o o refl))
        found p (further y h) = let r = found (parent_at l y) h in (suc r.0, or_right (eqb y o) _ r.1)

        whole : (p n : ℕ) → meets n l o p ≡ true → meets object_count l o p ≡ true
        whole zero zero e = clash (sym e)
        whole zero (suc n) e = clash (sym e)
        whole (suc y) n e = met-soon n y e

  -- where every parent is one of the objects
  module _ (inside : (y x : ℕ) → parent_at l y ≡ suc x → x < object_count) where
    -- the chain of y ends with object k behind it
    EndsAt : ℕ → ℕ → Type 0
    EndsAt k y = (y < object_count) × ((ends k l (suc y) ≡ false) × (ends (suc k) l (suc y) ≡ true))

    ends_next : (k y : ℕ) → EndsAt (suc k) y → (x : ℕ) × EndsAt k x
    unfolding EndsAt ends
    ends_next k y p = go (parent_at l y) (inside y) p.1.0 p.1.1
      where
        go : (q : ℕ) → ((x : ℕ) → q ≡ suc x → x < object_count) → ends k l q ≡ false → ends (suc k) l q ≡ true → (x : ℕ) × EndsAt k x
        go zero i a b = none_left k a
          where
            none_left : {A : Type 0} (n : ℕ) → ends n l 0 ≡ false → A
            none_left zero e = clash e
            none_left (suc n) e = clash e
        go (suc x) i a b = (x, (i x refl, (a, b)))

    pub ends-decides : (y : ℕ) → y < object_count → (ends object_count l (suc y) ≡ true) ↔ Ends l (suc y)
    unfolding ends EndsAt
    ends-decides y b = (sound object_count (suc y), λ h. let e = ends_found l (suc y) h in soon e.0 e.1)
      where
        sound : (n p : ℕ) → ends n l p ≡ true → Ends l p
        sound zero zero e = none
        sound zero (suc z) e = clash (sym e)
        sound (suc n) zero e = none
        sound (suc n) (suc z) e = onward z (sound n (parent_at l z) e)

        none_first : ends 0 l (suc y) ≡ false
        none_first = refl

        soon : (n : ℕ) → ends n l (suc y) ≡ true → ends object_count l (suc y) ≡ true
        soon n e =
            let f = first-true (λ (k : ℕ). ends k l (suc y)) none_first n e in
            let c : f.0 < object_count =
            steps-bounded EndsAt (λ j k z p q. one-first (λ (i : ℕ). ends i l (suc z)) (λ i. ends_more i l (suc z)) j k p.1 q.1) ends_next object_count (λ k z p. p.0)
            f.0 y (b, f.1) in
            more (λ (k : ℕ). ends k l (suc y)) (λ k. ends_more k l (suc y)) (suc f.0) object_count c f.1.1
