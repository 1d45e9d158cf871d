-- Orders of a list.
-- Assumes nothing.
use Rattle.std.specs.Prelude.{ℕ, ◌≡◌, Bool, ◌⊎◌}
use mathlib.Core.List.{List, [], ◌∷◌, Permᴰ}
use Rattle.bits.specs.Bits.{bit}
use Rattle.orders.specs.Sums.{sum_over}

-- "in any order": the library's permutations, which are made by four rules. The empty list is one of itself; one may go on
-- behind an equal first element; the first two elements may change places; and an order of an order is one.
abbrev pub OrderOf : {A : Type 0} → List A → List A → Type 0
OrderOf xs ys = Permᴰ xs ys

-- how often an element stands in a list, by a test for being the same
abbrev pub times_in : {A : Type 0} → (A → A → Bool) → A → List A → ℕ
times_in same x xs = sum_over xs (λ y. bit (same x y))

-- what holds of each element
abbrev pub Each : {A : Type 0} → (A → Type 0) → List A → Type 0
Each P [] = Unit {0}
Each P (x ∷ xs) = P x × Each P xs

-- what holds of some element
abbrev pub OneOf : {A : Type 0} → (A → Type 0) → List A → Type 0
OneOf P [] = ⊥
OneOf P (x ∷ xs) = P x ⊎ OneOf P xs

-- it is an element of the list
abbrev pub StandsIn : {A : Type 0} → A → List A → Type 0
StandsIn x xs = OneOf (λ y. y ≡ x) xs
