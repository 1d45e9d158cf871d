-- Tests: over indices, over lists, and a check that fails with its answer.
-- Assumes nothing.
use Rattle.std.specs.Prelude.{ℕ, zero, suc, Bool, true, false, ◌&&◌, List, [], ◌∷◌}
use Rattle.model.specs.declared.Decision.{Decision}
use Rattle.model.specs.declared.Decision.TheVariants.{Granted}

-- the test at each number below n
abbrev pub all_below : ℕ → (ℕ → Bool) → Bool
all_below zero f = true
all_below (suc n) f = all_below n f && f n

-- the test at each element
abbrev pub all_of : {A : Type 0} → (A → Bool) → List A → Bool
all_of f [] = true
all_of f (x ∷ xs) = f x && all_of f xs

-- where a, also b
unfoldable pub implies : Bool → Bool → Bool
implies true b = b
implies false b = true

-- a check that fails gives its answer; the later ones are looked at only where it passes
unfoldable pub unless : Bool → Decision → Decision → Decision
unless true d later = later
unless false d later = d

-- checks in their order, each with its answer: the first that fails gives its answer, Granted where none does
abbrev pub first_failing : List (Bool × Decision) → Decision
first_failing [] = Granted
first_failing (c ∷ later) = unless c.0 c.1 (first_failing later)
