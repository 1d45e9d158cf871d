-- Lists of gets in any order ("Start order of tasks", change request §6; with the wall, change request §10).
-- Assumes nothing.
use Rattle.std.specs.Prelude.{ℕ, ◌<◌, ◌≡◌, List, [], length, get_or, Some}
use Rattle.model.specs.declared.Profile.{Profile}
use Rattle.model.specs.declared.Monitor.{Monitor}
use Rattle.model.specs.declared.Mode.{Mode}
use Rattle.model.specs.declared.Request.TheVariants.{Get}
use Rattle.model.specs.Properties.{Star, Wall}
use Rattle.model.specs.Requests.{decode}
use Rattle.model.specs.Runs.{reply}
use Rattle.invariants.specs.Access.{with_access}

-- "every list of gets": each element is bytes that say a get to a monitor of the profile
abbrev pub IsGet : Profile → List ℕ → Type 0
IsGet k b = (s : ℕ) × (o : ℕ) × (x : Mode) × (decode k b ≡ Some (Get s o x))

-- what two gets must not break: "star or wall" (change request §10)
abbrev pub StarAndWall : Monitor → Type 0
StarAndWall m = Star m × Wall m

-- "two gets .., each granted if it came alone, would together break" a property of states: b says that s gets x on p, c that t gets y
-- on q, the reply to each in m is 0 or 1, and the state with both accesses added does not have the property
pub record Clash (Property : Monitor → Type 0) (m : Monitor) (b c : List ℕ) : Type 0 where
  pub s : ℕ
  pub p : ℕ
  pub x : Mode
  pub t : ℕ
  pub q : ℕ
  pub y : Mode
  pub first : decode m.profile b ≡ Some (Get s p x)
  pub second : decode m.profile c ≡ Some (Get t q y)
  pub first_alone : reply b m < 2
  pub second_alone : reply c m < 2
  pub together : Property (with_access (with_access m s p x) t q y) → ⊥

-- "no two gets in it": at no two places of the list
abbrev pub NoClash : (Monitor → Type 0) → List (List ℕ) → Monitor → Type 0
NoClash Property bs m = (i j : ℕ) → i < j → j < length bs → Clash Property m (get_or bs i []) (get_or bs j []) → ⊥
