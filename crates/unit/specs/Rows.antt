-- The rows of a monitor in a unit: 209 rows of sixteen bytes. Rows 0 to 63 are the rights of the objects, the next 64 the accesses held, the next 64 the rest of
-- each record, the next sixteen the clearances, the last one the profile. Every content says a monitor.
-- Assumes nothing.
use Rattle.std.specs.Prelude.{ℕ, zero, suc, ◌+◌, ◌*◌, cond, List, [], ◌∷◌, get_or, eqb, Some, None}
use Rattle.model.specs.declared.Level.{Level}
use Rattle.model.specs.Levels.{Label}
use Rattle.model.specs.declared.Subject.{Subject}
use Rattle.model.specs.declared.Object.{Object}
use Rattle.model.specs.declared.Profile.{Profile}
use Rattle.model.specs.declared.Monitor.{Monitor}
use Rattle.model.specs.State.{subject_count, object_count}

abbrev pub Rows : Type 0
Rows = List (List ℕ)

-- three rows for each object, one for each subject, one for the profile
abbrev pub row_count : ℕ
row_count = 3 * object_count + subject_count + 1

-- the row of the accesses held at object o, that of the rest of its record, that of the clearance of subject s; its rights are row o
abbrev pub held_row : ℕ → ℕ
held_row o = object_count + o

abbrev pub rest_row : ℕ → ℕ
rest_row o = 2 * object_count + o

abbrev pub clearance_row : ℕ → ℕ
clearance_row s = 3 * object_count + s

abbrev pub profile_row : ℕ
profile_row = 3 * object_count + subject_count

abbrev pub row_at : Rows → ℕ → List ℕ
row_at u i = get_or u i []

abbrev pub byte_at : List ℕ → ℕ → ℕ
byte_at row i = get_or row i 0

-- byte 3: the class; bytes 4 and 5: the needs
abbrev pub level_in : List ℕ → Level
level_in row = record { class = byte_at row 3; needs = byte_at row 4 * 256 + byte_at row 5 }

-- byte 2 is 1: a label; else none
unfoldable pub label_in : List ℕ → Label
label_in row = cond (eqb (byte_at row 2) 1) (Some (level_in row)) None

-- byte 0: the subjects in use; byte 1: the objects in use; the highest class and the needs in use stand where a level does
unfoldable pub profile_in : List ℕ → Profile
profile_in row = record { subjects = byte_at row 0; objects = byte_at row 1; highest = level_in row }

-- byte 6: the company numbers of the first two conflict classes; byte 7: those of the last two (change request §10)
abbrev pub companies_in : List ℕ → ℕ
companies_in row = byte_at row 6 * 256 + byte_at row 7

-- byte 8: the parent, number plus one, 0 for none (change request §11)
abbrev pub parent_in : List ℕ → ℕ
parent_in row = byte_at row 8

-- byte 0 is 1: live; byte 1: the owner
unfoldable pub object_of : List ℕ → List ℕ → List ℕ → Object
object_of rights held rest =
    record {
      live = eqb (byte_at rest 0) 1;
      owner = byte_at rest 1;
      label = label_in rest;
      companies = companies_in rest;
      rights = rights;
      held = held;
      parent = parent_in rest;
    }

-- object o and subject s, as the rows say them
abbrev pub object_in : Rows → ℕ → Object
object_in u o = object_of (row_at u o) (row_at u (held_row o)) (row_at u (rest_row o))

abbrev pub subject_in : Rows → ℕ → Subject
subject_in u s = record { clearance = label_in (row_at u (clearance_row s)) }

-- f at each number below n
unfoldable pub tabulate : {A : Type 0} → ℕ → (ℕ → A) → List A
tabulate zero f = []
tabulate (suc n) f = f 0 ∷ tabulate n (λ i. f (suc i))

abbrev pub subjects_in : Rows → List Subject
subjects_in u = tabulate subject_count (subject_in u)

abbrev pub objects_in : Rows → List Object
objects_in u = tabulate object_count (object_in u)

-- the monitor that the rows say
abbrev pub state_in : Rows → Monitor
state_in u = record { profile = profile_in (row_at u profile_row); subjects = subjects_in u; objects = objects_in u }
