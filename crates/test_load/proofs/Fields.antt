-- What a draw says in a field, kind by kind: the words of change request §5.
-- Assumes nothing.
use Prim.Native.Nat.{ℕ, ◌+◌, ◌*◌, ◌%◌, ◌≤◌, ◌<◌}
use native.Mathlib.Omega.{arith}
use mathlib.Core.Path.{◌≡◌, refl, ◌∙◌}
use mathlib.Core.Logic.{◌≢◌, ◌⊎◌, ⊎_elim}
use mathlib.Core.Bool.{Bool, true, false}
use lib.Dec.{eqb}
use borrow.Author.Tests.{le-leb, lt-leb, eq-eqb, ne_eqb}
use Rattle.model.proofs.Tests.{or_left, or_right, cond-true, cond-false}
use Rattle.test_load.specs.Generator.{draw}
use Rattle.test_load.specs.Load.{mode_drawn, where_used, uses_other, made}

-- a field that the kind uses is what was drawn, any other is 0
pub field-used : (used : Bool) (x : ℕ) → used ≡ true → where_used used x ≡ x
field-used used x e = cond-true used x 0 e

pub field-unused : (used : Bool) (x : ℕ) → used ≡ false → where_used used x ≡ 0
field-unused used x e = cond-false used x 0 e

module _ (kind d : ℕ) where
  -- "1 + d mod 4 for kinds 1 to 4"
  pub mode-to-four : kind ≤ 4 → mode_drawn kind d ≡ 1 + d % 4
  mode-to-four h = cond-true _ _ _ (le-leb kind 4 h)

  -- "4 times (d mod 2) for create"
  pub mode-create : kind ≡ 5 → mode_drawn kind d ≡ 4 * (d % 2)
  mode-create e = cond-false _ _ _ (lt-leb kind 4 (omega (arith, e))) ∙ cond-true _ _ _ (eq-eqb kind 5 e)

  -- "else 0"
  pub mode-else : 5 < kind → mode_drawn kind d ≡ 0
  mode-else h = cond-false _ _ _ (lt-leb kind 4 (omega arith)) ∙ cond-false _ _ _ (ne_eqb kind 5 (λ e. absurd (omega (arith, e))))

-- ---- the fields of a request, each by its own draw

module _ (x : ℕ) where
  -- "kind 1 + d mod 7, actor d mod 16, .. object d mod 64"
  pub always-drawn : ((made x).kind ≡ 1 + draw 1 x % 7) × ((made x).actor ≡ draw 2 x % 16) × ((made x).object ≡ draw 4 x % 64)
  unfolding made
  always-drawn = (refl, refl, refl)

  -- "other d mod 16"
  pub other-drawn : ((made x).kind ≡ 3) ⊎ ((made x).kind ≡ 4) → (made x).other ≡ draw 3 x % 16
  unfolding made
  other-drawn =
      ⊎_elim (λ e. field-used (uses_other (made x).kind) (draw 3 x % 16) (or_left _ _ (eq-eqb _ 3 e)))
      (λ e. field-used (uses_other (made x).kind) (draw 3 x % 16) (or_right (eqb (made x).kind 3) _ (eq-eqb _ 4 e)))

  -- "1 + d mod 4 for kinds 1 to 4, 4 times (d mod 2) for create, else 0"
  pub mode-drawn : ((made x).kind ≤ 4 → (made x).mode ≡ 1 + draw 5 x % 4) × ((made x).kind ≡ 5 → (made x).mode ≡ 4 * (draw 5 x % 2)) × (5 < (made x).kind → (made x).mode ≡ 0)
  unfolding made
  mode-drawn = (mode-to-four _ (draw 5 x), mode-create _ (draw 5 x), mode-else _ (draw 5 x))

  -- "class d mod 16, needs d mod 65536"
  pub level-drawn : (made x).kind ≡ 7 → ((made x).class ≡ draw 6 x % 16) × ((made x).needs ≡ draw 7 x % 65536)
  unfolding made
  level-drawn e = (field-used _ _ (eq-eqb _ 7 e), field-used _ _ (eq-eqb _ 7 e))

  -- "A field that the kind does not use is drawn and written as 0"
  pub unused-is-0 : ((made x).kind ≢ 3 → (made x).kind ≢ 4 → (made x).other ≡ 0) × ((made x).kind ≢ 7 → ((made x).class ≡ 0) × ((made x).needs ≡ 0)) × ((made x).spare ≡ 0)
  unfolding made
  unused-is-0 = (
    λ e f. field-unused (uses_other (made x).kind) (draw 3 x % 16) (rw (ne_eqb _ 3 e, ne_eqb _ 4 f)),
    λ e. (field-unused _ _ (ne_eqb _ 7 e), field-unused _ _ (ne_eqb _ 7 e)),
    refl,
  )
