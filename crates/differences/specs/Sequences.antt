-- The requests of a sequence.
-- Assumes nothing.
use Rattle.std.specs.Prelude.{ℕ, false, List, [], ◌∷◌, Option, Some, None}
use Rattle.model.specs.declared.Level.{Level}
use Rattle.model.specs.declared.Mode.TheVariants.{Read}
use Rattle.model.specs.declared.Request.{Request}
use Rattle.model.specs.declared.Request.TheVariants.{Get, Create, Delete, ChangeLevel}
use Rattle.model.specs.Requests.{creation}
use Rattle.differences.specs.declared.sequence.Sequence.{Sequence}
use Rattle.differences.specs.declared.sequence.Sequence.TheVariants.{One, Remaking, Reading}

-- subject s creates object o, labels it and asks to read it
abbrev pub reading_of : ℕ → ℕ → Level → List Request
reading_of s o l = Create s o (creation false 0) ∷ ChangeLevel s o l ∷ Get s o Read ∷ []

-- the owner of a live object o deletes it first
abbrev pub make_room : Option ℕ → ℕ → List Request → List Request
make_room None o rest = rest
make_room (Some w) o rest = Delete w o ∷ rest

-- the requests in their order
abbrev pub requests_in : Sequence → List Request
requests_in (One q) = q ∷ []
requests_in (Remaking w x y) = Delete w x ∷ Create w y (creation false 0) ∷ []
requests_in (Reading p s l) = make_room p.owner p.object (reading_of s p.object l)

-- where there is a sequence, its requests
abbrev pub requests_of : Option Sequence → List Request
requests_of None = []
requests_of (Some q) = requests_in q
