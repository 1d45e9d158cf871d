-- "Four answers from a comparison" (change request §2): each answer in words of the relation, and the test behind the checks as it was.
-- Assumes nothing.
use Prim.Native.Nat.{ℕ, ◌^◌, ◌<◌}
use mathlib.Core.Path.{◌≡◌, refl, sym, ap, ap₂, ◌∙◌, subst}
use mathlib.Core.Logic.{◌↔◌}
use mathlib.Core.Bool.{Bool, true, false, ◌&&◌}
use mathlib.Core.List.{[], ◌∷◌, map}
use lib.ListN.{replicate}
use lib.Dec.{leb}
use Rattle.model.specs.declared.Level.{Level}
use Rattle.model.specs.Levels.{Label, LevelDominates, subset, at_least, answered, compare, equal_or_above, level_dominates, dominates}
use Rattle.std.specs.Prelude.{Some, None}
use Rattle.model.specs.declared.Comparison.{Comparison}
use Rattle.model.specs.declared.Comparison.TheVariants.{Equal, Above, Below, Apart}
use Rattle.model.proofs.Tests.{split, apart}
use Rattle.model.proofs.Levels.{answered-first, at-least-decides, at-least-refl, at-least-antisym, level-at-least}

-- ---- the answers and the two tests that they are made of

-- B compared with A
abbrev pub mirror : Comparison → Comparison
mirror Equal = Equal
mirror Above = Below
mirror Below = Above
mirror Apart = Apart

answered-mirror : (p q : Bool) → answered q p ≡ mirror (answered p q)
answered-mirror true true = refl
answered-mirror true false = refl
answered-mirror false true = refl
answered-mirror false false = refl

pub compare-mirror : (a b : Level) → compare b a ≡ mirror (compare a b)
unfolding compare
compare-mirror a b = answered-mirror (at_least a b) (at_least b a)

-- the test of the other direction
pub level-back : (a b : Level) → level_dominates b a ≡ equal_or_above (mirror (compare a b))
unfolding level_dominates
level-back a b = ap equal_or_above (compare-mirror a b)

answered-second : (p q : Bool) → equal_or_above (mirror (answered p q)) ≡ q
answered-second p q = ap equal_or_above (sym (answered-mirror p q)) ∙ answered-first q p

answered-exactly : (p q r s : Bool) → (answered p q ≡ answered r s) ↔ ((p ≡ r) × (q ≡ s))
answered-exactly p q r s = (
  λ e. (
    sym (answered-first p q) ∙ ap equal_or_above e ∙ answered-first r s,
    sym (answered-second p q) ∙ ap (λ (c : Comparison). equal_or_above (mirror c)) e ∙ answered-second r s,
  ),
  λ e. ap₂ answered e.0 e.1,
)

-- ---- each answer in words of the relation

-- a test fails exactly where what it decides does not hold
fails-exactly : {P : Type 0} (t : Bool) → (t ≡ true) ↔ P → (t ≡ false) ↔ (P → ⊥)
fails-exactly t d = (λ e p. apart (d.1 p) e, λ n. split t (λ e. absurd (n (d.0 e))) (λ e. e))

both-exactly : {P Q R S : Type 0} → P ↔ R → Q ↔ S → (P × Q) ↔ (R × S)
both-exactly f g = (λ h. (f.0 h.0, g.0 h.1), λ h. (f.1 h.0, g.1 h.1))

module _ (a b : Level) where
  first : (at_least a b ≡ true) ↔ LevelDominates a b
  first = at-least-decides a b

  second : (at_least b a ≡ true) ↔ LevelDominates b a
  second = at-least-decides b a

  means : {P Q : Type 0} (r s : Bool) → (at_least a b ≡ r) ↔ P → (at_least b a ≡ s) ↔ Q → (compare a b ≡ answered r s) ↔ (P × Q)
  unfolding compare
  means r s f g =
      let e = answered-exactly (at_least a b) (at_least b a) r s in
      let h = both-exactly f g in
      (λ c. h.0 (e.0 c), λ d. e.1 (h.1 d))

  -- "equal, above (only A dominates), below (only B does) or apart (neither)"
  pub compare-means : ((compare a b ≡ Equal) ↔ (LevelDominates a b × LevelDominates b a))
      × ((compare a b ≡ Above) ↔ (LevelDominates a b × (LevelDominates b a → ⊥)))
      × ((compare a b ≡ Below) ↔ ((LevelDominates a b → ⊥) × LevelDominates b a))
      × ((compare a b ≡ Apart) ↔ ((LevelDominates a b → ⊥) × (LevelDominates b a → ⊥)))
  compare-means = (
    means true true first second,
    means true false first (fails-exactly _ second),
    means false true (fails-exactly _ first) second,
    means false false (fails-exactly _ first) (fails-exactly _ second),
  )

  -- "equal": the same class and the same needs
  pub equal-exactly : a.needs < 65536 → b.needs < 65536 → (compare a b ≡ Equal) ↔ (a ≡ b)
  unfolding compare
  equal-exactly p q =
      let e = answered-exactly (at_least a b) (at_least b a) true true in (
        λ c. at-least-antisym a b p q (e.0 c).0 (e.0 c).1,
        λ s. e.1 (subst (λ (l : Level). at_least a l ≡ true) s (at-least-refl a), subst (λ (l : Level). at_least l a ≡ true) s (at-least-refl a)),
      )

-- ---- "Every check that uses the comparison follows the new meaning"

-- of two levels the test behind the checks passes exactly where the answer is equal or above
pub dominates-by-answer : (a b : Level) → dominates (Some a) (Some b) ≡ equal_or_above (compare a b)
unfolding dominates level_dominates
dominates-by-answer a b = refl

-- ---- "Replies don't move"

-- the tests as they stood before there were four answers
abbrev level_before : Level → Level → Bool
level_before a b = leb b.class a.class && subset 16 b.needs a.needs

abbrev dominates_before : Label → Label → Bool
dominates_before None b = false
dominates_before (Some a) None = false
dominates_before (Some a) (Some b) = level_before a b

-- the test behind the checks says of all labels what it said then
pub dominates-as-before : (a b : Label) → dominates a b ≡ dominates_before a b
unfolding dominates
dominates-as-before None b = refl
dominates-as-before (Some a) None = refl
dominates-as-before (Some a) (Some b) = level-at-least a b

-- ---- the answers, computed

abbrev level : ℕ → ℕ → Level
level class needs = record { class = class; needs = needs }

-- class 3 with needs 0 and 1, beside: itself; class 1 with need 0; class 5 with needs 0, 1 and 2; a higher class with fewer needs
pub four-answers : (compare (level 3 3) (level 3 3) ≡ Equal) × (compare (level 3 3) (level 1 1) ≡ Above)
    × (compare (level 3 3) (level 5 7) ≡ Below) × (compare (level 3 3) (level 5 1) ≡ Apart)
unfolding compare
four-answers = (refl, refl, refl, refl)

-- one part alone tells them apart too: the class, or a need, also the last one
pub one-part-answers : (compare (level 2 1) (level 1 1) ≡ Above) × (compare (level 1 1) (level 1 32769) ≡ Below)
    × (compare (level 0 32768) (level 0 1) ≡ Apart) × (compare (level 0 0) (level 0 0) ≡ Equal)
unfolding compare
one-part-answers = (refl, refl, refl, refl)

-- each need counts
pub each-need : map (λ (k : ℕ). compare (level 0 (2 ^ k)) (level 0 0)) (0 ∷ 1 ∷ 2 ∷ 3 ∷ 4 ∷ 5 ∷ 6 ∷ 7 ∷ 8 ∷ 9 ∷ 10 ∷ 11 ∷ 12 ∷ 13 ∷ 14 ∷ 15 ∷ [])
    ≡ replicate 16 Above
unfolding compare
each-need = refl
