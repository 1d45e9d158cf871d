-- The last free object is the first that is met from the back.
-- Assumes nothing.
use Prim.Native.Nat.{ℕ, zero, suc, ◌-◌, ◌<◌, ◌≤◌}
use native.Mathlib.Nat.{not-suc-le-zero, le_of_suc-le-suc, eq-or-lt_of_le}
use native.Mathlib.Omega.{arith}
use mathlib.Core.Path.{◌≡◌, refl, sym, subst, ap, ◌∙◌}
use mathlib.Core.Logic.{⊎_elim}
use mathlib.Core.Bool.{Bool, true, false, not, cond, ◌&&◌, ◌||◌}
use lib.Dec.{leb, ltb}
use denote.Ref.{Bor}
use denote.Param.Members.{Mut}
use Rattle.std.specs.Prelude.{Option, Some, None}
use Rattle.std.specs.Option.{MatchOption, unwrap_or, IfSome, IsSomeAnd}
use Rattle.std.specs.Bool.{IsTrue}
use Rattle.std.specs.Fn.{CalledAt}
use Rattle.std.specs.Iterator.Runs.{Run, SomeRun, NoItemPasses, EndsAtFirstPassing, CallKeepsClosure}
use Rattle.std.proofs.iter.runs.Sources.{nat_range_steps_back, range_runs_back}
use Rattle.std.specs.declared.ops.Range.{Range}
use Rattle.model.specs.declared.Monitor.{Monitor}
use Rattle.model.specs.State.{object}
use Rattle.telling.specs.Distinguish.{free_below}
use Rattle.model.proofs.Tests.{split}
use Rattle.std.proofs.lemmas.Bool.Decides.{nat_tests}
use Rattle.differences.proofs.Searching.{same}

-- a free object is one that is in use and not live
free_test : (live : Bool) (o n : ℕ) → (live || leb n o) ≡ not (not live && ltb o n)
free_test true o n = refl
free_test false o n = grind (arith, nat_tests)

module _ (m : Monitor) where
  abbrev pub is_free : ℕ → Bool
  is_free o = not (object m o).live && ltb o m.profile.objects

  -- one object more
  more-free : (k : ℕ) → free_below (suc k) m ≡ cond (not (is_free k)) (free_below k m) k
  unfolding free_below
  more-free k = ap (λ (t : Bool). cond t (free_below k m) k) (free_test (object m k).live k m.profile.objects)

  passed : (k : ℕ) → false ≡ is_free k → free_below (suc k) m ≡ free_below k m
  passed k e = more-free k ∙ ap (λ (t : Bool). cond (not t) (free_below k m) k) (sym e)

  met : (k : ℕ) → true ≡ is_free k → free_below (suc k) m ≡ k
  met k e = more-free k ∙ ap (λ (t : Bool). cond (not t) (free_below k m) k) (sym e)

  none-free : (n : ℕ) → ((o : ℕ) → o < n → false ≡ is_free o) → free_below n m ≡ 0
  unfolding free_below
  none-free zero h = refl
  none-free (suc n) h = passed n (h n (omega arith)) ∙ none-free n (λ o l. h o (omega arith))

  free-at : (n x : ℕ) → x < n → true ≡ is_free x → ((o : ℕ) → x < o → o < n → false ≡ is_free o) → free_below n m ≡ x
  free-at zero x l e h = absurd (omega arith)
  free-at (suc n) x l e h =
      ⊎_elim
      (λ (p : x ≡ n). ap (λ (k : ℕ). free_below (suc k) m) (sym p) ∙ met x e)
      (λ (p : x < n). passed n (h n p (omega arith)) ∙ free-at n x p e (λ o i j. h o i (omega arith)))
      (eq-or-lt_of_le (le_of_suc-le-suc l))

  pub free-within : (n : ℕ) → free_below (suc n) m ≤ n
  free-within zero =
      split (is_free zero) (λ t. omega (arith, met zero (sym t)))
      (λ t. omega (arith, passed zero (sym t), none-free zero (λ o l. absurd (not-suc-le-zero l))))
  free-within (suc n) =
      split (is_free (suc n)) (λ t. omega (arith, met (suc n) (sym t)))
      (λ t. omega (arith, passed (suc n) (sym t), free-within n))

  -- what `rfind` over the numbers below n returns, where the closure says which are free
  module _ {F : Type 0} {g : Mut F (Bor ℕ × Unit {0}) Bool} {f : F} (n : ℕ) (stays : CallKeepsClosure g f)
      (says : (o : ℕ) (t : Bool) → o < n → CalledAt g f o t f → t ≡ is_free o) where
    abbrev Says : Bool → ℕ → Type 0
    Says t o = CalledAt g f o t f

    at : (p : Run nat_range_steps_back) → p.from ≡ record { start = 0; end = n } → (o : ℕ) → o < n → n - 1 - o < p.len
        → p.at (n - 1 - o) ≡ Some o
    at p e o l i =
        let r = range_runs_back p p.seen in
        let back : n - 1 - (n - 1 - o) ≡ o = omega arith in
        same _ _ (r.3 (n - 1 - o) i ∙ ap (λ (s : Range ℕ). Some (s.end - 1 - (n - 1 - o))) e ∙ ap Some back)

    pub last-free : (r : Option ℕ)
        → SomeRun nat_range_steps_back (record { start = 0; end = n })
        (λ p. MatchOption r (IsTrue p.whole × NoItemPasses p g f) (EndsAtFirstPassing p g f))
        → unwrap_or r 0 ≡ free_below n m
    last-free None (p, e, d) =
        let long : p.len ≡ n = (range_runs_back p p.seen).1 d.0 ∙ ap (λ (s : Range ℕ). s.end - s.start) e ∙ omega arith in
        let none = λ (o : ℕ) (l : o < n). subst (λ (i : Option ℕ). IfSome i (Says false)) (at p e o l (omega arith)) (d.1 stays (n - 1 - o)) in
        sym (none-free n (λ o l. says o false l (none o l)))
    last-free (Some x) (p, e, d) =
        let i = d.0 in
        let long : p.len ≤ n - 0 = subst (λ (s : Range ℕ). p.len ≤ s.end - s.start) e (range_runs_back p p.seen).0 in
        let place : n - 1 - (n - 1 - i) ≡ i = omega arith in
        let here : Some x ≡ Some (n - 1 - i) = sym d.2 ∙ ap p.at (sym place) ∙ at p e (n - 1 - i) (omega arith) (omega arith) in
        let is : x ≡ n - 1 - i = cc in
        let calls = d.3 stays in
        let miss = λ (o : ℕ) (a : x < o) (b : o < n).
        subst (λ (k : Option ℕ). IsSomeAnd k (Says false)) (at p e o b (omega arith)) (calls.1 (n - 1 - o) (omega arith)) in
        sym (free-at n x (omega arith) (says x true (omega arith) calls.0) (λ o a b. says o false b (miss o a b)))
