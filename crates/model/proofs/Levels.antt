-- Dominance: the test decides the relation; each level dominates itself, and two that dominate each other are one.
-- Assumes nothing.
use Prim.Native.Nat.{ℕ, zero, suc, ◌/◌, ◌%◌, ◌^◌, ◌<◌, ◌≤◌}
use native.Mathlib.Numerals.{one-add}
use native.Mathlib.Omega.{arith}
use mathlib.Core.Path.{◌≡◌, refl, sym, ap, ◌∙◌, subst}
use mathlib.Core.Logic.{◌↔◌, ◌≢◌}
use mathlib.Core.Bool.{Bool, true, false}
use lib.Dec.{leb, eqb}
use lib.Pow.{shr-shr}
use borrow.Author.Tests.{le-leb, leb-true, eqb-true, eq-eqb}
use Rattle.bits.specs.Bits.{odd}
use Rattle.model.specs.declared.Level.{Level}
use Rattle.model.specs.Levels.{Label, need, LevelDominates, Dominates, subset, at_least, answered, compare, equal_or_above, level_dominates, dominates, present, same_label}
use Rattle.std.specs.Prelude.{Some, None}
use Rattle.model.proofs.Tests.{and_left, and_right, and_both, clash}

-- ---- the test over needs

-- need k + 1 of a set is need k of its half
need-half : (k n : ℕ) → need (suc k) n ≡ need k (n / 2)
unfolding need
need-half k n =
    let e : n / 2 / 2 ^ k ≡ n / 2 ^ suc k = shr-shr n 1 k ∙ ap (λ (j : ℕ). n / 2 ^ j) (one-add k) in
    ap odd (sym e)

-- need 0 is the last bit
need-first : (n : ℕ) → need 0 n ≡ true → n % 2 ≡ 1
unfolding need odd
need-first n e = let q : n / 1 % 2 ≡ 1 = eqb-true _ _ e in omega arith

first-need : (n : ℕ) → n % 2 ≡ 1 → need 0 n ≡ true
unfolding need odd
first-need n e = eq-eqb (n / 1 % 2) 1 (omega arith)

pub subset-need : (k b a : ℕ) → subset k b a ≡ true → (i : ℕ) → i < k → need i b ≡ true → need i a ≡ true
subset-need zero b a e i h n = absurd (omega arith)
subset-need (suc k) b a e zero h n =
    let low : b % 2 ≤ a % 2 = leb-true _ _ (and_left (leb (b % 2) (a % 2)) _ e) in
    let one : b % 2 ≡ 1 = need-first b n in
    first-need a (omega arith)
subset-need (suc k) b a e (suc i) h n =
    need-half i a ∙ subset-need k (b / 2) (a / 2) (and_right (leb (b % 2) (a % 2)) _ e) i (omega arith) (sym (need-half i b) ∙ n)

pub need-subset : (k b a : ℕ) → ((i : ℕ) → i < k → need i b ≡ true → need i a ≡ true) → subset k b a ≡ true
need-subset zero b a h = refl
need-subset (suc k) b a h =
    and_both (le-leb (b % 2) (a % 2) (last (b % 2) (omega arith) refl))
    (need-subset k (b / 2) (a / 2) (λ i w n. sym (need-half i a) ∙ h (suc i) (omega arith) (need-half i b ∙ n)))
  where
    last : (r : ℕ) → r < 2 → r ≡ b % 2 → b % 2 ≤ a % 2
    last zero w e = omega arith
    last (suc zero) w e = let q : a % 2 ≡ 1 = need-first a (h 0 (omega arith) (first-need b (sym e))) in omega arith
    last (suc (suc r)) w e = absurd (omega arith)

-- ---- the tests decide the relations

pub at-least-decides : (a b : Level) → (at_least a b ≡ true) ↔ LevelDominates a b
at-least-decides a b = (
  λ e. record {
    class = leb-true _ _ (and_left (leb b.class a.class) _ e);
    needs = subset-need 16 b.needs a.needs (and_right (leb b.class a.class) _ e);
  },
  λ d. and_both (le-leb b.class a.class d.class) (need-subset 16 b.needs a.needs d.needs),
)

-- of the two tests that an answer is made of, equal or above tells the first
pub answered-first : (p q : Bool) → equal_or_above (answered p q) ≡ p
answered-first true true = refl
answered-first true false = refl
answered-first false true = refl
answered-first false false = refl

pub level-at-least : (a b : Level) → level_dominates a b ≡ at_least a b
unfolding level_dominates compare
level-at-least a b = answered-first (at_least a b) (at_least b a)

pub level-decides : (a b : Level) → (level_dominates a b ≡ true) ↔ LevelDominates a b
level-decides a b = (
  λ e. (at-least-decides a b).0 (sym (level-at-least a b) ∙ e),
  λ d. level-at-least a b ∙ (at-least-decides a b).1 d,
)

-- the test that the checks use decides what the scope says
pub dominates-decides : (a b : Label) → (dominates a b ≡ true) ↔ Dominates a b
unfolding dominates Dominates
dominates-decides None b = (λ e. clash (sym e), λ d. absurd d)
dominates-decides (Some a) None = (λ e. clash (sym e), λ d. absurd d)
dominates-decides (Some a) (Some b) = level-decides a b

-- ---- the order of levels

subset-refl : (k n : ℕ) → subset k n n ≡ true
subset-refl zero n = refl
subset-refl (suc k) n = and_both (le-leb (n % 2) (n % 2) (omega arith)) (subset-refl k (n / 2))

pub at-least-refl : (a : Level) → at_least a a ≡ true
at-least-refl a = and_both (le-leb a.class a.class (omega arith)) (subset-refl 16 a.needs)

pub level-refl : (a : Level) → level_dominates a a ≡ true
level-refl a = level-at-least a a ∙ at-least-refl a

-- what dominates is there, and what is there dominates itself
pub dominates-refl : (a : Label) → a ≢ None → Dominates a a
unfolding Dominates
dominates-refl None h = absurd (h refl)
dominates-refl (Some a) h = record { class = omega arith; needs = λ k below n. n }

pub dominates-there : (a b : Label) → Dominates a b → a ≢ None
unfolding Dominates
dominates-there None b d e = d
dominates-there (Some a) b d e = clash (ap present e)

pub dominates-trans : (a b c : Label) → Dominates a b → Dominates b c → Dominates a c
unfolding Dominates
dominates-trans None b c d e = d
dominates-trans (Some x) None c d e = absurd d
dominates-trans (Some x) (Some y) None d e = e
dominates-trans (Some x) (Some y) (Some z) d e =
    record { class = omega (arith, d.class, e.class); needs = λ k below n. d.needs k below (e.needs k below n) }

subset-antisym : (k n j : ℕ) → n < 2 ^ k → j < 2 ^ k → subset k n j ≡ true → subset k j n ≡ true → n ≡ j
subset-antisym zero n j p q e f = omega arith
subset-antisym (suc k) n j p q e f =
    let low : n % 2 ≤ j % 2 = leb-true _ _ (and_left (leb (n % 2) (j % 2)) _ e) in
    let high : j % 2 ≤ n % 2 = leb-true _ _ (and_left (leb (j % 2) (n % 2)) _ f) in
    let rest : n / 2 ≡ j / 2 =
    subset-antisym k (n / 2) (j / 2) (omega arith) (omega arith)
    (and_right (leb (n % 2) (j % 2)) _ e) (and_right (leb (j % 2) (n % 2)) _ f) in
    omega arith

-- whatever the classes are, also those that no level of the scope has
pub at-least-antisym : (a b : Level) → a.needs < 65536 → b.needs < 65536 → at_least a b ≡ true → at_least b a ≡ true → a ≡ b
at-least-antisym a b p q e f =
    let low : b.class ≤ a.class = leb-true _ _ (and_left (leb b.class a.class) _ e) in
    let high : a.class ≤ b.class = leb-true _ _ (and_left (leb a.class b.class) _ f) in
    let class_same : a.class ≡ b.class = omega arith in
    let needs-same : a.needs ≡ b.needs =
    subset-antisym 16 a.needs b.needs p q (and_right (leb a.class b.class) _ f) (and_right (leb b.class a.class) _ e) in
    λ i. record { class = class_same i; needs = needs-same i }

-- ---- the test of sameness decides equality

pub same-label : (a b : Label) → same_label a b ≡ true → a ≡ b
unfolding same_label
same-label None None e = refl
same-label None (Some b) e = clash (sym e)
same-label (Some a) None e = clash (sym e)
same-label (Some a) (Some b) e =
    let p : a.class ≡ b.class = eqb-true _ _ (and_left (eqb a.class b.class) _ e) in
    let q : a.needs ≡ b.needs = eqb-true _ _ (and_right (eqb a.class b.class) _ e) in
    λ i. Some (record { class = p i; needs = q i })

itself : (a : Label) → same_label a a ≡ true
unfolding same_label
itself None = refl
itself (Some a) = and_both (eq-eqb a.class a.class refl) (eq-eqb a.needs a.needs refl)

pub label_same : (a b : Label) → a ≡ b → same_label a b ≡ true
label_same a b e = subst (λ (c : Label). same_label a c ≡ true) e (itself a)

-- what is not there is absent
pub absent : (l : Label) → present l ≡ false → l ≡ None
absent None e = refl
absent (Some v) e = clash e
