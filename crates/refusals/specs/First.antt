-- The first cause in an order: what "the first refusal in the scope's order" means, with no test in it.
-- Assumes nothing.
use Rattle.std.specs.Prelude.{ℕ, ◌≡◌, ◌⊎◌, ◌↔◌, true, List, [], ◌∷◌}
use Rattle.model.specs.declared.Decision.{Decision}
use Rattle.model.specs.declared.Decision.TheVariants.{Granted}
use Rattle.model.specs.Decisions.{number, refuses}

-- rows of an answer and its cause, in the order in which they are looked for
pub data Causes : Type 1 where
  none : Causes
  row : Decision → Type 0 → Causes → Causes

-- the cause of d holds, and that of no earlier row
abbrev pub FirstIn : Causes → Decision → Type 0
FirstIn none d = ⊥
FirstIn (row k cause later) d = ((d ≡ k) × cause) ⊎ ((cause → ⊥) × FirstIn later d)

-- no cause holds
abbrev pub NoneIn : Causes → Type 0
NoneIn none = Unit {0}
NoneIn (row k cause later) = (cause → ⊥) × NoneIn later

-- an answer is a refusal d exactly when d is the first cause, and Granted exactly when there is none
pub record AnswersFirst (causes : Causes) (answer : Decision) : Type 0 where
  pub refused : (d : Decision) → refuses d ≡ true → (answer ≡ d) ↔ FirstIn causes d
  pub granted : (answer ≡ Granted) ↔ NoneIn causes

-- the numbers of the rows, in their order
abbrev pub order_of : Causes → List ℕ
order_of none = []
order_of (row k cause later) = number k ∷ order_of later
