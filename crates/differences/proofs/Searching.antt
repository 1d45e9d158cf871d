-- A search ends at the first number that has a request.
-- Assumes nothing.
use Prim.Native.Nat.{ℕ, zero, suc, ◌+◌, ◌-◌, ◌<◌, ◌≤◌}
use native.Mathlib.Nat.{not-suc-le-zero, le_of_suc-le-suc, eq-or-lt_of_le}
use native.Mathlib.Numerals.{add-one}
use native.Mathlib.Omega.{arith}
use mathlib.Core.Path.{◌≡◌, refl, sym, subst, ap, ap₂, ◌∙◌}
use mathlib.Core.Logic.{⊎_elim}
use mathlib.Core.Bool.{Bool, true, false}
use mathlib.Core.List.{List, [], ◌∷◌}
use denote.Param.Members.{Mut}
use Rattle.std.specs.Prelude.{Option, Some, None}
use Rattle.std.specs.Option.{MatchOption, is_some, option_map, IfSome, IsSomeAnd}
use Rattle.std.specs.Bool.{IsTrue, then_some}
use Rattle.std.specs.Fn.{Called}
use Rattle.std.specs.Iterator.Runs.{Run, SomeRun, AllItemsGive, IsFirstToGive, CallKeepsClosure}
use Rattle.std.proofs.iter.Yields.{nat_range_steps}
use Rattle.std.proofs.iter.runs.Sources.{range_runs}
use Rattle.std.specs.declared.ops.Range.{Range}
use Rattle.model.specs.declared.Level.{Level}
use Rattle.model.specs.declared.Request.{Request}
use Rattle.model.proofs.Tests.{clash}
use Rattle.telling.specs.Distinguish.{or_else, search, when}
use Rattle.differences.specs.declared.sequence.Sequence.{Sequence}
use Rattle.differences.specs.declared.sequence.Sequence.TheVariants.{One, Remaking, Reading}
use Rattle.differences.specs.Sequences.{reading_of, make_room, requests_in, requests_of}

-- ---- one request, or none

pub when_told : (t : Bool) (q : Request) → requests_of (then_some t (One q)) ≡ when t q
unfolding when
when_told true q = refl
when_told false q = refl

-- ---- one of two

room-made : (w : Option ℕ) (o s : ℕ) (l : Level) (later : List Request)
    → or_else (make_room w o (reading_of s o l)) later ≡ make_room w o (reading_of s o l)
unfolding or_else
room-made None o s l later = refl
room-made (Some w) o s l later = refl

or-found : (q : Sequence) (later : List Request) → or_else (requests_in q) later ≡ requests_in q
unfolding or_else
or-found (One q) later = refl
or-found (Remaking w x y) later = refl
or-found (Reading p s l) later = room-made p.owner p.object s l later

-- what `or` and `or_else` of the library return
pub or-later : (a r : Option Sequence) (later : List Request) → MatchOption a (requests_of r ≡ later) (λ q. r ≡ Some q)
    → requests_of r ≡ or_else (requests_of a) later
unfolding or_else
or-later None r later e = e
or-later (Some q) r later e = ap requests_of e ∙ sym (or-found q later)

pub or-assoc : (a b c : List Request) → or_else (or_else a b) c ≡ or_else a (or_else b c)
unfolding or_else
or-assoc [] b c = refl
or-assoc (q ∷ qs) b c = refl

pub ruleset joined = (or-later, or-assoc)

-- ---- along the numbers, for a loop that goes up and stops at the first that has a request

-- one number more has nothing
pub search-more : (k : ℕ) (f : ℕ → List Request) (q : Option Sequence) → search k f ≡ [] → requests_of q ≡ f k → is_some q ≡ false → search (k + 1) f ≡ []
unfolding search or_else
search-more k f None e g w = ap (λ (n : ℕ). search n f) (add-one k) ∙ ap₂ or_else e (sym g)
search-more k f (Some q) e g w = clash w

-- the first number that has a request
pub search-first : (n k : ℕ) (f : ℕ → List Request) (q : Option Sequence) → search k f ≡ [] → requests_of q ≡ f k → is_some q ≡ true → k < n
    → requests_of q ≡ search n f
unfolding search or_else
search-first n k f None e g w h = clash (sym w)
search-first zero k f (Some q) e g w h = absurd (not-suc-le-zero h)
search-first (suc n) k f (Some q) e g w h =
    ⊎_elim
    (λ (p : k ≡ n). g ∙ ap f p ∙ sym (ap (λ (l : List Request). or_else l (f n)) (ap (λ (i : ℕ). search i f) (sym p) ∙ e)))
    (λ (p : k < n). sym (or-found q (f n)) ∙ ap (λ (l : List Request). or_else l (f n)) (search-first n k f (Some q) e g w p))
    (eq-or-lt_of_le (le_of_suc-le-suc h))

-- no number has a request
pub search-end : (n k : ℕ) (f : ℕ → List Request) → search k f ≡ [] → k ≡ n → [] ≡ search n f
search-end n k f e p = sym e ∙ ap (λ (i : ℕ). search i f) p

-- ---- along the numbers, for a search of the library

module _ (h : ℕ → List Request) where
  none-below : (k : ℕ) → ((j : ℕ) → j < k → [] ≡ h j) → search k h ≡ []
  unfolding search or_else
  none-below zero e = refl
  none-below (suc k) e = ap₂ or_else (none-below k (λ j l. e j (omega arith))) (sym (e k (omega arith)))

  first-below : (n k : ℕ) (q : Sequence) → k < n → ((j : ℕ) → j < k → [] ≡ h j) → requests_in q ≡ h k
      → search n h ≡ requests_in q
  unfolding search or_else
  first-below zero k q l e w = absurd (not-suc-le-zero l)
  first-below (suc n) k q l e w =
      ⊎_elim
      (λ (p : k ≡ n). ap₂ or_else (none-below n (λ j m. e j (omega arith))) (ap h (sym p) ∙ sym w))
      (λ (p : k < n). ap (λ (l : List Request). or_else l (h n)) (first-below n k q p e w) ∙ or-found q (h n))
      (eq-or-lt_of_le (le_of_suc-le-suc l))

-- of a place of a run, as the library says it
pub same : (o : Option ℕ) (k : ℕ) → option_map (λ y. y) o ≡ Some k → o ≡ Some k
same None k e = e
same (Some x) k e = e

-- what `find_map` over the numbers below n returns, where h says what the closure returns
module _ {F : Type 0} {g : Mut F (ℕ × Unit {0}) (Option Sequence)} {f : F} (n : ℕ) (h : ℕ → List Request) (stays : CallKeepsClosure g f)
    (says : (x : ℕ) (r : Option Sequence) → x < n → Called g f (x, tt) r f → requests_of r ≡ h x) where
  abbrev Gives : Option Sequence → ℕ → Type 0
  Gives r x = Called g f (x, tt) r f

  at : (p : Run nat_range_steps) → p.from ≡ record { start = 0; end = n } → (k : ℕ) → k < p.len → p.at k ≡ Some k
  at p e k l =
      let r = range_runs p p.seen in
      same _ k (r.3 k l ∙ ap Some (ap (λ (s : Range ℕ). s.start + k) e ∙ omega arith))

  pub found-first : (r : Option Sequence)
      → SomeRun nat_range_steps (record { start = 0; end = n })
      (λ p. MatchOption r (IsTrue p.whole × AllItemsGive p g f None)
      (λ y. (i : ℕ) × (i < p.len) × (p.len ≡ i + 1) × IsFirstToGive p g f (Some y) None i))
      → requests_of r ≡ search n h
  found-first None (p, e, d) =
      let long : p.len ≡ n = (range_runs p p.seen).1 d.0 ∙ ap (λ (s : Range ℕ). s.end - s.start) e ∙ omega arith in
      let none = λ (j : ℕ) (l : j < n). subst (λ (o : Option ℕ). IfSome o (Gives None)) (at p e j (omega arith)) (d.1 stays j) in
      sym (none-below h n (λ j l. says j None l (none j l)))
  found-first (Some y) (p, e, d) =
      let i = d.0 in
      let short : p.len ≤ n - 0 = subst (λ (s : Range ℕ). p.len ≤ s.end - s.start) e (range_runs p p.seen).0 in
      let hit = subst (λ (o : Option ℕ). IsSomeAnd o (Gives (Some y))) (at p e i d.1) (d.3 stays).0 in
      let miss = λ (j : ℕ) (l : j < i). subst (λ (o : Option ℕ). IsSomeAnd o (Gives None)) (at p e j (omega arith)) ((d.3 stays).1 j l) in
      sym (first-below h n i y (omega arith) (λ j l. says j None (omega arith) (miss j l)) (says i (Some y) (omega arith) hit))
