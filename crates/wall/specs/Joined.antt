-- The company numbers of several objects in one: in each conflict class the first number that is not 0.
-- Assumes nothing.
use Rattle.std.specs.Prelude.{ℕ, zero, suc, ◌+◌, ◌*◌, Bool, true, cond, eqb}
use Rattle.model.specs.Tests.{all_below, implies}
use Rattle.model.specs.Companies.{company, compatible, confined}

-- the first number, and where that is 0 the second
abbrev pub number_or : ℕ → ℕ → ℕ
number_or a b = cond (eqb a 0) b a

-- in each class
unfoldable pub joined : ℕ → ℕ → ℕ
joined p q =
    number_or (company 0 p) (company 0 q) * 4096
    + number_or (company 1 p) (company 1 q) * 256
    + number_or (company 2 p) (company 2 q) * 16
    + number_or (company 3 p) (company 3 q)

-- those below n that pass, one after the other; g has the four numbers of each
abbrev pub joined_below : ℕ → (ℕ → Bool) → (ℕ → ℕ) → ℕ
joined_below zero f g = 0
joined_below (suc n) f g = cond (f n) (joined (joined_below n f g) (g n)) (joined_below n f g)

abbrev pub every : ℕ → Bool
every j = true

-- each of the first n is compatible with those before it, joined
unfoldable pub joins : ℕ → (ℕ → ℕ) → Bool
joins n g = all_below n (λ (j : ℕ). compatible (joined_below j every g) (g j))

-- the numbers p are confined to each of the first n that passes
unfoldable pub confined_to : ℕ → (ℕ → Bool) → ℕ → (ℕ → ℕ) → Bool
confined_to n f p g = all_below n (λ (j : ℕ). implies (f j) (confined p (g j)))
