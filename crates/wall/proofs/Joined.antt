-- Joined company numbers: where several objects are compatible, what a rule asks of each of them it asks of their joined numbers.
-- Assumes nothing.
use Prim.Native.Nat.{ℕ, zero, suc, ◌+◌, ◌*◌, ◌/◌, ◌%◌, ◌<◌}
use native.Mathlib.Omega.{arith}
use native.Mathlib.Nat.{div-add-mod', eq-or-lt_of_le, le_of_suc-le-suc, not-suc-le-zero}
use mathlib.Core.Path.{◌≡◌, sym, ap, ap₂, ◌∙◌, subst}
use mathlib.Core.Logic.{◌⊎◌, inl, inr, ⊎_elim, ◌≢◌}
use mathlib.Core.Bool.{Bool, true}
use lib.Dec.{eqb}
use borrow.Author.Tests.{eqb-true, eqb-false, eq-eqb, ne_eqb}
use Rattle.model.specs.Companies.{company, Compatible, Confined}
use Rattle.model.proofs.Tests.{split, apart, and_both, cond-all, cond-true, cond-false, below_out}
use Rattle.model.proofs.Companies.{four-numbers, no-company}
use Rattle.wall.specs.Joined.{number_or, joined, joined_below}

-- ---- the four numbers of two objects, joined

pub company-fits : (k n : ℕ) → company k n < 16
unfolding company
company-fits k n = omega arith

pub last-company : (n : ℕ) → n % 16 ≡ company 3 n
unfolding company
last-company n = omega arith

pub number-or-fits : (a b : ℕ) → a < 16 → b < 16 → number_or a b < 16
number-or-fits a b h g = cond-all (λ (n : ℕ). n < 16) (eqb a 0) b a (λ e. g) (λ e. h)

-- in each class the number of p, and where that is 0 the number of q
pub joined-company : (k p q : ℕ) → k < 4 → company k (joined p q) ≡ number_or (company k p) (company k q)
unfolding joined
joined-company k p q h =
    let fits : (i : ℕ) → number_or (company i p) (company i q) < 16 = λ i. number-or-fits _ _ (company-fits i p) (company-fits i q) in
    let four = four-numbers _ _ _ _ (fits 0) (fits 1) (fits 2) (fits 3) in
    eqb-true _ _
    (below_out 4 (λ (i : ℕ). eqb (company i (joined p q)) (number_or (company i p) (company i q)))
    (and_both (and_both (and_both (eq-eqb _ _ four.0) (eq-eqb _ _ four.1)) (eq-eqb _ _ four.2)) (eq-eqb _ _ four.3)) k h)

-- nothing is joined to p by what has no number, and nothing by the same numbers
number_same : (a b : ℕ) → (b ≡ 0) ⊎ (b ≡ a) → number_or a b ≡ a
number_same a b h =
    split (eqb a 0)
    (λ e. cond-true (eqb a 0) b a e ∙ ⊎_elim (λ (z : b ≡ 0). z ∙ sym (eqb-true a 0 e)) (λ (z : b ≡ a). z) h)
    (λ e. cond-false (eqb a 0) b a e)

-- a number of 16 bits is made of its four
four-back : (n : ℕ) → n < 65536 → company 0 n * 4096 + company 1 n * 256 + company 2 n * 16 + n % 16 ≡ n
unfolding company
four-back n h =
    let a = n / 16 in
    let b = a / 16 in
    let c = b / 16 in
    let second : n / 256 ≡ b = omega arith in
    let first : n / 4096 ≡ c = omega arith in
    let whole : c % 16 ≡ c = omega arith in
    let sum : c * 4096 + b % 16 * 256 + a % 16 * 16 + n % 16 ≡ n = omega (arith, div-add-mod' n 16, div-add-mod' a 16, div-add-mod' b 16) in
    ap₂ (λ (i j : ℕ). i % 16 * 4096 + j % 16 * 256 + a % 16 * 16 + n % 16) first second ∙ ap (λ (i : ℕ). i * 4096 + b % 16 * 256 + a % 16 * 16 + n % 16) whole ∙ sum

pub joined_same : (p q : ℕ) → p < 65536 → (q ≡ 0) ⊎ (p ≡ q) → p ≡ joined p q
unfolding joined
joined_same p q h e =
    let same : (k : ℕ) → k < 4 → number_or (company k p) (company k q) ≡ company k p =
    λ k b. number_same (company k p) (company k q)
    (⊎_elim (λ (z : q ≡ 0). inl (ap (company k) z ∙ no-company k b)) (λ (z : p ≡ q). inr (sym (ap (company k) z))) e) in
    sym (rw (same 0 (omega arith), same 1 (omega arith), same 2 (omega arith), same 3 (omega arith)) (ap (λ (i : ℕ). company 0 p * 4096 + company 1 p * 256 + company 2 p * 16 + i) (sym (last-company p)) ∙ four-back p h))

joined-first : (k p q : ℕ) → k < 4 → company k p ≢ 0 → company k (joined p q) ≡ company k p
joined-first k p q h n = joined-company k p q h ∙ cond-false (eqb (company k p) 0) _ _ (ne_eqb _ 0 n)

joined-second : (k p q : ℕ) → k < 4 → company k p ≡ 0 → company k (joined p q) ≡ company k q
joined-second k p q h z = joined-company k p q h ∙ cond-true (eqb (company k p) 0) _ _ (eq-eqb _ 0 z)

-- ---- the two rules

none_or_some : (n : ℕ) → (n ≡ 0) ⊎ (n ≢ 0)
none_or_some n = split (eqb n 0) (λ e. inl (eqb-true n 0 e)) (λ e. inr (eqb-false n 0 e))

-- two that are confined to a third are compatible
pub both-confined : (p q w : ℕ) → Confined p w → Confined q w → Compatible p q
both-confined p q w P Q k h =
    ⊎_elim (λ z. inl z)
    (λ (n : company k p ≢ 0). inr (⊎_elim (λ z. inl z) (λ (m : company k q ≢ 0). inr (P k h n ∙ sym (Q k h m))) (none_or_some (company k q))))
    (none_or_some (company k p))

pub confined-through : (p w q : ℕ) → Confined p w → Confined w q → Confined p q
confined-through p w q P W k h n = let e = P k h n in e ∙ W k h (λ z. n (e ∙ z))

-- joined numbers have every number of the first, and where the two are compatible every number of the second
joined_keeps : (p q : ℕ) → Confined p (joined p q)
joined_keeps p q k h n = sym (joined-first k p q h n)

joined-adds : (p q : ℕ) → Compatible p q → Confined q (joined p q)
joined-adds p q C k h n =
    ⊎_elim (λ z. sym (joined-second k p q h z))
    (λ v. ⊎_elim (λ z. absurd (n z)) (λ e. sym (joined-first k p q h (λ z. n (sym e ∙ z)) ∙ e)) v)
    (C k h)

-- ---- those below n that pass f; g has the four numbers of each

module _ (f : ℕ → Bool) (g : ℕ → ℕ) where
  -- a number of a class that is not 0 is that of one of them
  joined-from : (n k : ℕ) → k < 4 → company k (joined_below n f g) ≢ 0
      → (j : ℕ) × ((j < n) × ((f j ≡ true) × (company k (g j) ≡ company k (joined_below n f g))))
  joined-from zero k h = λ z. absurd (z (no-company k h))
  joined-from (suc n) k h =
      let W = joined_below n f g in
      let earlier : company k W ≢ 0 → (j : ℕ) × ((j < suc n) × ((f j ≡ true) × (company k (g j) ≡ company k W))) =
      λ z. let i = joined-from n k h z in (i.0, (omega (arith, i.1.0), i.1.1)) in
      cond-all (λ (w : ℕ). company k w ≢ 0 → (j : ℕ) × ((j < suc n) × ((f j ≡ true) × (company k (g j) ≡ company k w)))) (f n) (joined W (g n)) W
      (λ t z.
      ⊎_elim
      (λ (e : company k W ≡ 0). (n, (omega arith, (t, sym (joined-second k W (g n) h e)))))
      (λ (e : company k W ≢ 0). let i = earlier e in (i.0, (i.1.0, (i.1.1.0, i.1.1.1 ∙ sym (joined-first k W (g n) h e)))))
      (none_or_some (company k W)))
      (λ t z. earlier z)

  -- where each is compatible with those before it, joined, every number of each is in the joined numbers of all
  pub joined-covers : (n : ℕ) → ((j : ℕ) → j < n → f j ≡ true → Compatible (joined_below j f g) (g j))
      → (j : ℕ) → j < n → f j ≡ true → Confined (g j) (joined_below n f g)
  joined-covers zero C j h t = absurd (not-suc-le-zero h)
  joined-covers (suc n) C j h t =
      let W = joined_below n f g in
      ⊎_elim
      (λ (e : j ≡ n).
      subst (λ (i : ℕ). Confined (g i) (joined_below (suc n) f g)) (sym e)
      (cond-all (Confined (g n)) (f n) (joined W (g n)) W (λ u. joined-adds W (g n) (C n (omega arith) u)) (λ u. apart (sym (ap f e) ∙ t) u)))
      (λ (w : j < n).
      let old = joined-covers n (λ i v. C i (omega arith)) j w t in
      cond-all (Confined (g j)) (f n) (joined W (g n)) W (λ u. confined-through (g j) W (joined W (g n)) old (joined_keeps W (g n))) (λ u. old))
      (eq-or-lt_of_le (le_of_suc-le-suc h))

  -- what each of them is to q, their joined numbers are to q
  pub joined-compatible : (n q : ℕ) → ((j : ℕ) → j < n → f j ≡ true → Compatible (g j) q) → Compatible (joined_below n f g) q
  joined-compatible n q C k h =
      ⊎_elim (λ z. inl z)
      (λ (z : company k (joined_below n f g) ≢ 0).
      let i = joined-from n k h z in
      let e = i.1.1.1 in
      ⊎_elim (λ v. absurd (z (sym e ∙ v))) (λ v. inr (⊎_elim (λ u. inl u) (λ u. inr (sym e ∙ u)) v)) (C i.0 i.1.0 i.1.1.0 k h))
      (none_or_some (company k (joined_below n f g)))

  pub joined-confined : (n q : ℕ) → ((j : ℕ) → j < n → f j ≡ true → Confined (g j) q) → Confined (joined_below n f g) q
  joined-confined n q C k h z =
      let i = joined-from n k h z in
      let e = i.1.1.1 in
      sym e ∙ C i.0 i.1.0 i.1.1.0 k h (λ v. z (sym e ∙ v))
