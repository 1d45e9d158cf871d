-- Objects that pass a test, listed by their numbers in an array; the star property of one subject by two such lists.
-- Assumes nothing.
use Prim.Native.Nat.{ℕ, ◌+◌, ◌<◌, ◌≤◌, min}
use native.Mathlib.Omega.{arith}
use native.Mathlib.Nat.{eq-or-lt_of_le}
use mathlib.Core.Path.{◌≡◌, refl, sym, ap, ap₂, ◌∙◌}
use mathlib.Core.Logic.{◌↔◌, ⊎_elim}
use mathlib.Core.Bool.{Bool, true, false, not}
use mathlib.Core.List.{List}
use lib.ListN.{length, get_or, set, take, length-set}
use lib.Dec.{eqb}
use borrow.Author.Tests.{eqb-true}
use lib.Seq.{get_or-set_same, get_or-set_other}
use Rattle.std.proofs.lemmas.List.{length-take-le, get_or-take}
use Rattle.std.specs.Int.{from_bool}
use Rattle.bits.specs.Bits.{bit}
use Rattle.model.specs.declared.Object.{Object}
use Rattle.model.specs.Tests.{all_below}
use Rattle.model.specs.Levels.{Dominates, dominates}
use Rattle.model.specs.declared.Mode.{Mode}
use Rattle.model.specs.Modes.{has, observes, alters, any_observes, any_alters, any_needs_label}
use Rattle.model.specs.State.{held_by}
use Rattle.model.specs.Rules.{star_for, star_from, star_pair}
use Rattle.model.proofs.Tests.{split, apart, or_left, or_right, not_on, cond-all, below_out, below_in}
use Rattle.model.proofs.Modes.{any-observes, any-alters, observes-some, alters-some}
use Rattle.model.proofs.Levels.{dominates-decides}
use Rattle.model.proofs.ModePairs.{entry-star}
use Rattle.star.specs.Idle.{free, nothing_held, idle}
use Rattle.star.proofs.Pairs.{pairs-listed}
use Rattle.star.specs.Lists.{read_by, altered_by, busy_for, Listed, itself, out_of, Numbers, Covers, label_at, pairs_kept, TabledFor}

-- in an array of 64 that is being filled, the first n numbers are those that pass f, of q that were looked at
pub record Counted (f : ℕ → Bool) (from : ℕ → ℕ) (a : List ℕ) (n q : ℕ) : Type 0 where
  pub whole : length a ≡ 64
  pub few : n ≤ q
  pub sound : (j : ℕ) → j < n → (get_or a j 0 < 64) × (f (get_or a j 0) ≡ true)
  pub complete : (k : ℕ) → k < q → f (from k) ≡ true → (j : ℕ) × ((j < n) × (get_or a j 0 ≡ from k))

pub counted-none : (f : ℕ → Bool) (from : ℕ → ℕ) (a : List ℕ) → length a ≡ 64 → Counted f from a 0 0
counted-none f from a e =
    record { whole = e; few = omega arith; sound = λ j h. absurd (omega arith); complete = λ k h t. absurd (omega arith) }

module _ (f : ℕ → Bool) (from : ℕ → ℕ) (a : List ℕ) (n q : ℕ) (h : q < 64) (b : from q < 64) (L : Counted f from a n q) where
  kept_at : (j : ℕ) → j < n → get_or (set a n (from q)) j 0 ≡ get_or a j 0
  kept_at j w = get_or-set_other a n j (from q) 0 (λ e. absurd (omega arith))

  new-at : get_or (set a n (from q)) n 0 ≡ from q
  new-at = get_or-set_same a n (from q) 0 (omega (arith, L.whole, L.few))

  -- what was listed is listed still
  sound-still : (j : ℕ) → j < n → (get_or (set a n (from q)) j 0 < 64) × (f (get_or (set a n (from q)) j 0) ≡ true)
  sound-still j z = (omega (arith, kept_at j z, (L.sound j z).0), ap f (kept_at j z) ∙ (L.sound j z).1)

  complete-still : (m k : ℕ) → n ≤ m → k < q → f (from k) ≡ true → (j : ℕ) × ((j < m) × (get_or (set a n (from q)) j 0 ≡ from k))
  complete-still m k e z u = let s = L.complete k z u in (s.0, (omega (arith, s.1.0), kept_at s.0 s.1.0 ∙ s.1.1))

  -- one more number is looked at: stored in any case, and counted where it passes
  pub counted_more : (v : ℕ) → v ≡ bit (f (from q)) → Counted f from (set a n (from q)) (n + v) (q + 1)
  counted_more v e =
      split (f (from q))
      (λ t. let one : v ≡ 1 = e ∙ ap bit t in
      record {
        whole = length-set a n (from q) ∙ L.whole;
        few = omega (arith, L.few);
        sound = λ j w.
            ⊎_elim
            (λ (z : j ≡ n). let g : get_or (set a n (from q)) j 0 ≡ from q = ap (λ (i : ℕ). get_or (set a n (from q)) i 0) z ∙ new-at in (omega (arith, g), ap f g ∙ t))
            (λ (z : j < n). sound-still j z)
            (eq-or-lt_of_le {n = j} {m = n} (omega arith));
        complete = λ k w u.
            ⊎_elim
            (λ (z : k ≡ q). (n, (omega arith, new-at ∙ sym (ap from z))))
            (λ (z : k < q). complete-still (n + v) k (omega arith) z u)
            (eq-or-lt_of_le {n = k} {m = q} (omega arith));
      })
      (λ t. let none : v ≡ 0 = e ∙ ap bit t in
      record {
        whole = length-set a n (from q) ∙ L.whole;
        few = omega (arith, L.few);
        sound = λ j w. sound-still j (omega arith);
        complete = λ k w u.
            ⊎_elim
            (λ (z : k ≡ q). apart (sym (ap (λ (i : ℕ). f (from i)) z) ∙ u) t)
            (λ (z : k < q). complete-still (n + v) k (omega arith) z u)
            (eq-or-lt_of_le {n = k} {m = q} (omega arith));
      })

-- what is lent on in the end is the front of the array
pub listed-front : (f : ℕ → Bool) (from : ℕ → ℕ) (a : List ℕ) (n q : ℕ) → q ≤ 64 → Counted f from a n q → Listed f from (take n a) q
listed-front f from a n q h L =
    let long : length (take n a) ≡ n = length-take-le n a (omega (arith, h, L.few, L.whole)) in
    let here : (j : ℕ) → j < n → get_or (take n a) j 0 ≡ get_or a j 0 = λ j w. get_or-take n a j 0 w in
    record {
      few = omega (arith, L.few, long);
      sound = λ j w.
          let z : j < n = omega (arith, w, long) in
          let s = L.sound j z in
          (omega (arith, here j z, s.0), ap f (here j z) ∙ s.1);
      complete = λ k w u. let s = L.complete k w u in (s.0, (omega (arith, s.1.0, long), here s.0 s.1.0 ∙ s.1.1));
    }

-- out of a list that leaves out none of all 64 objects that passes
pub listed-all : (g : ℕ → Bool) (b a : List ℕ) → Numbers b → ((k : ℕ) → k < 64 → g k ≡ true → (j : ℕ) × ((j < length b) × (get_or b j 0 ≡ k)))
    → Listed g (out_of b) a (length b) → Listed g itself a 64
listed-all g b a N w A =
    record {
      few = omega (arith, A.few, N.few);
      sound = A.sound;
      complete = λ k h t.
          let i = w k h t in
          let j = A.complete i.0 i.1.0 (ap g i.1.1 ∙ t) in
          (j.0, (j.1.0, j.1.1 ∙ i.1.1));
    }

-- the numbers of a list
pub listed-numbers : (f : ℕ → Bool) (from : ℕ → ℕ) (a : List ℕ) (q : ℕ) → Listed f from a q → q ≤ 64 → Numbers a
listed-numbers f from a q L h = record { few = omega (arith, L.few); below = λ j w. (L.sound j w).0 }

pub from-bit : (b : Bool) → from_bool b ≡ bit b
from-bit true = refl
from-bit false = refl

pub bit-small : (b : Bool) → bit b ≤ 1
bit-small true = omega arith
bit-small false = omega arith

-- ---- the star property by the objects that a subject reads and those that it alters

-- an idle row has nothing of a subject that is asked about
idle-free : (row : List ℕ) (low end s : ℕ) → low ≤ s → s < end → end ≤ 16 → idle row low end ≡ true → free row s ≡ true
unfolding idle nothing_held
idle-free row low end s g h w =
    cond-all (λ (b : Bool). b ≡ true → free row s ≡ true) (eqb (min low 15 + 1) end) (free row (min low 15)) (all_below 16 (free row))
    (λ e t. let one : min low 15 + 1 ≡ end = eqb-true _ _ e in let z : s ≡ min low 15 = omega arith in ap (free row) z ∙ t)
    (λ e t. below_out 16 (free row) t s (omega arith))

-- what a subject reads or alters is not passed over
module _ (low end s : ℕ) (g : low ≤ s) (h : s < end) (w : end ≤ 16) (at : ℕ → Object) where
  held-busy : (k : ℕ) → any_needs_label (held_by (at k) s) ≡ true → busy_for low end at k ≡ true
  held-busy k t =
      split (idle (at k).held low end)
      (λ e. apart t (not_on _ (idle-free (at k).held low end s g h w e)))
      (λ e. ap not e)

  pub busy-covers : (a : List ℕ) → Listed (busy_for low end at) itself a 64 → Covers s at a
  busy-covers a L =
      record {
        numbers = listed-numbers _ _ a 64 L (omega arith);
        reads = λ k b t. L.complete k b (held-busy k (or_left (read_by s at k) (altered_by s at k) t));
        alters = λ k b t. L.complete k b (held-busy k (or_right (read_by s at k) (altered_by s at k) t));
      }

-- a pair that is not in order
pub pair-apart : (at : ℕ → Object) (read altered : List ℕ) (i j : ℕ) → i < length read → j < length altered
    → dominates (label_at at altered j) (label_at at read i) ≡ false → pairs_kept at read altered ≡ false
unfolding pairs_kept
pair-apart at read altered i j hi hj e =
    split (pairs_kept at read altered) (λ t. apart (below_out (length altered) _ (below_out (length read) _ t i hi) j hj) e) (λ f. f)

-- going over the two lists is going over all objects; `at` has what the list of the objects has
pub star-pairs : (s : ℕ) (l : List Object) → length l ≡ 64 → (d : Object) (at : ℕ → Object) → ((k : ℕ) → k < 64 → get_or l k d ≡ at k)
    → (read altered : List ℕ) → Listed (read_by s at) itself read 64 → Listed (altered_by s at) itself altered 64
    → star_for s l ≡ pairs_kept at read altered
unfolding star_for star_from star_pair pairs_kept
star-pairs s l n d at same read altered R A =
    pairs-listed (λ (p : Object). any_observes (held_by p s)) (λ (q : Object). any_alters (held_by q s)) (λ (p q : Object). dominates q.label p.label) l n d at same
    read altered R A

-- going over the two lists is going over the table for every pair of accesses of the subject
module _ (s : ℕ) (at : ℕ → Object) (read altered : List ℕ) (R : Listed (read_by s at) itself read 64) (A : Listed (altered_by s at) itself altered 64) where
  pair-kept : pairs_kept at read altered ≡ true → (p q : ℕ) → p < 64 → q < 64 → (x y : Mode) → has x (held_by (at p) s) ≡ true → observes x ≡ true
      → has y (held_by (at q) s) ≡ true → alters y ≡ true → Dominates (at q).label (at p).label
  unfolding pairs_kept
  pair-kept t p q hp hq x y h o k w =
      let i = R.complete p hp (any-observes x _ h o) in
      let j = A.complete q hq (any-alters y _ k w) in
      (dominates-decides _ _).0
      (sym (ap₂ (λ (u v : ℕ). dominates (at v).label (at u).label) i.1.1 j.1.1) ∙ below_out (length altered) _ (below_out (length read) _ t i.0 i.1.0) j.0 j.1.0)

  pub lists-table : (pairs_kept at read altered ≡ true) ↔ TabledFor s at
  unfolding pairs_kept
  lists-table = (
    λ t p q hp hq x y h k. (entry-star x y _ _).1 (λ o w. pair-kept t p q hp hq x y h o k w, λ o w. pair-kept t q p hq hp y x k o h w),
    λ T. below_in (length read) _ (λ i hi. below_in (length altered) _ (λ j hj.
        let u = R.sound i hi in
        let v = A.sound j hj in
        observes-some _ u.1 (λ x h o. alters-some _ v.1 (λ y k w. (dominates-decides _ _).1 (((entry-star x y _ _).0 (T _ _ u.0 v.0 x y h k)).0 o w))))),
  )
