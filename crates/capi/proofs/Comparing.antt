-- The numbers of `circmon_compare`: what each says of two levels, in words of the relation.
-- Assumes nothing.
use Prim.Native.Nat.{ℕ, zero, suc, ◌<◌}
use native.Mathlib.Omega.{arith}
use mathlib.Core.Path.{◌≡◌, refl, sym, ap, ap₂, ◌∙◌}
use mathlib.Core.Logic.{◌↔◌}
use Rattle.model.specs.declared.Level.{Level}
use Rattle.model.specs.declared.Comparison.{Comparison}
use Rattle.model.specs.declared.Comparison.TheVariants.{Equal, Above, Below, Apart}
use Rattle.model.specs.Levels.{LevelDominates, compare}
use Rattle.model.proofs.Comparisons.{compare-means, equal-exactly}
use Rattle.numbers.specs.Comparing.{comparison_number}
use Rattle.capi.specs.Comparing.{handed, compared}

-- the answer that a number stands for
abbrev answer_of : ℕ → Comparison
answer_of zero = Equal
answer_of (suc zero) = Above
answer_of (suc (suc zero)) = Below
answer_of (suc (suc (suc n))) = Apart

answer-number : (c : Comparison) → answer_of (comparison_number c) ≡ c
answer-number Equal = refl
answer-number Above = refl
answer-number Below = refl
answer-number Apart = refl

four-numbers : (c : Comparison) → comparison_number c < 4
four-numbers Equal = omega arith
four-numbers Above = omega arith
four-numbers Below = omega arith
four-numbers Apart = omega arith

module _ (class-a needs-a class-b needs-b : ℕ) where
  abbrev a : Level
  a = record { class = class-a; needs = needs-a }

  abbrev b : Level
  b = record { class = class-b; needs = needs-b }

  -- what one answer means is what its number means
  numbered : {P : Type 0} (c : Comparison) → (compare a b ≡ c) ↔ P → (compared class-a needs-a class-b needs-b ≡ comparison_number c) ↔ P
  unfolding compared
  numbered c e = (
    λ n. e.0 (sym (answer-number (compare a b)) ∙ ap answer_of n ∙ answer-number c),
    λ p. ap comparison_number (e.1 p),
  )

  -- "equal, above (only A dominates), below (only B does) or apart (neither)"
  pub compared-means : ((compared class-a needs-a class-b needs-b ≡ 0) ↔ (LevelDominates a b × LevelDominates b a))
      × ((compared class-a needs-a class-b needs-b ≡ 1) ↔ (LevelDominates a b × (LevelDominates b a → ⊥)))
      × ((compared class-a needs-a class-b needs-b ≡ 2) ↔ ((LevelDominates a b → ⊥) × LevelDominates b a))
      × ((compared class-a needs-a class-b needs-b ≡ 3) ↔ ((LevelDominates a b → ⊥) × (LevelDominates b a → ⊥)))
  compared-means =
      let m = compare-means a b in
      (numbered Equal m.0, numbered Above m.1, numbered Below m.2, numbered Apart m.3)

  -- no other number is returned
  pub compared-below-4 : compared class-a needs-a class-b needs-b < 4
  unfolding compared
  compared-below-4 = four-numbers (compare a b)

  -- 0 is said of the same class and the same needs, and of nothing else
  pub compared-0-exactly : needs-a < 65536 → needs-b < 65536
      → (compared class-a needs-a class-b needs-b ≡ 0) ↔ ((class-a ≡ class-b) × (needs-a ≡ needs-b))
  compared-0-exactly p q =
      let e = numbered Equal (equal-exactly a b p q) in
      (λ n. (ap (λ (l : Level). l.class) (e.0 n), ap (λ (l : Level). l.needs) (e.0 n)), λ s. e.1 (ap₂ handed s.0 s.1))

-- each number; the last need; a class that no level has
pub each_number : (compared 3 3 3 3 ≡ 0) × (compared 3 3 1 1 ≡ 1) × (compared 3 3 5 7 ≡ 2) × (compared 3 3 5 1 ≡ 3) × (compared 0 32768 0 0 ≡ 1) × (compared 255 0 15 65535 ≡ 3)
unfolding compared compare
each_number = (refl, refl, refl, refl, refl, refl)
