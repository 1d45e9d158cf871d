-- The parts of `distinguish` as the code computes them: from two records and not from two states; the place of a new object from one state.
-- Assumes nothing.
use Rattle.std.specs.Prelude.{ℕ, Bool, true, false, cond, not, List, [], eqb, get_or, Option, Some, None}
use Rattle.std.specs.Bool.{then_some}
use Rattle.model.specs.declared.Level.{Level}
use Rattle.model.specs.Levels.{Label, compare, present}
use Rattle.model.specs.declared.Subject.{Subject}
use Rattle.model.specs.declared.Object.{Object}
use Rattle.model.specs.declared.Monitor.{Monitor}
use Rattle.model.specs.declared.Mode.{Mode}
use Rattle.model.specs.declared.Request.{Request}
use Rattle.model.specs.declared.Request.TheVariants.{Get, Release, Delete, SetCompanies}
use Rattle.model.specs.Modes.{has}
use Rattle.model.specs.State.{subject_count, object_count, clearance_at, object_at, object}
use Rattle.telling.specs.Distinguish.{by_comparison, or_else, search, search_modes, when, differ, by_parent, to_label, free_below}
use Rattle.differences.specs.declared.sequence.Place.{Place}
use Rattle.differences.specs.declared.sequence.Slot.{Slot}
use Rattle.differences.specs.declared.sequence.Sequence.TheVariants.{Reading}
use Rattle.differences.specs.Sequences.{requests_in}

-- ---- objects

-- object o is live in one record only
unfoldable pub life_apart : ℕ → Object → Object → List Request
life_apart o a b = when (differ a.live b.live) (Delete (cond a.live a.owner b.owner) o)

-- it has another owner
unfoldable pub owner_apart : ℕ → Object → Object → List Request
owner_apart o a b = when (not (eqb a.owner b.owner)) (Delete a.owner o)

-- it has other company numbers
unfoldable pub companies_apart : ℕ → Object → Object → List Request
companies_apart o a b = when (not (eqb a.companies b.companies)) (SetCompanies a.owner o a.companies)

-- what asks of a held access, or of a right
abbrev pub ask_of : Bool → ℕ → ℕ → Mode → Request
ask_of true s o x = Release s o x
ask_of false s o x = Get s o x

-- the mode is in one of the sets of subject s only
unfoldable pub mode_apart : Bool → ℕ → ℕ → ℕ → ℕ → Mode → List Request
mode_apart held o s a b x = when (differ (has x a) (has x b)) (ask_of held s o x)

-- the first such mode
unfoldable pub set_apart : Bool → ℕ → ℕ → ℕ → ℕ → List Request
set_apart held o s a b = search_modes (mode_apart held o s a b)

-- the first subject whose sets differ
unfoldable pub row_apart : Bool → ℕ → List ℕ → List ℕ → List Request
row_apart held o a b = search subject_count (λ s. set_apart held o s (get_or a s 0) (get_or b s 0))

-- its life or its owner
unfoldable pub standing_apart : ℕ → Object → Object → List Request
standing_apart o a b = or_else (life_apart o a b) (owner_apart o a b)

-- the first object of which that differs
unfoldable pub standings_apart : List Object → List Object → List Request
standings_apart a b = search object_count (λ o. standing_apart o (object_at a o) (object_at b o))

-- the first difference of the rest of two records
unfoldable pub object_apart : ℕ → Object → Object → List Request
object_apart o a b =
    or_else (to_label a.owner o a.label b.label)
    (or_else (companies_apart o a b) (or_else (row_apart false o a.rights b.rights) (row_apart true o a.held b.held)))

-- the first object whose records differ
unfoldable pub objects_apart : List Object → List Object → List Request
objects_apart a b = search object_count (λ o. object_apart o (object_at a o) (object_at b o))

-- the first object that has another parent
unfoldable pub parents_apart : Monitor → Monitor → List Request
parents_apart m n = search object_count (by_parent m n)

-- ---- subjects

-- subject s is enrolled in one only
unfoldable pub enrolment_apart : ℕ → Label → Label → List Request
enrolment_apart s a b = when (differ (present a) (present b)) (Delete s 0)

-- the first such subject
unfoldable pub enrolments_apart : List Subject → List Subject → List Request
enrolments_apart a b = search subject_count (λ s. enrolment_apart s (clearance_at a s) (clearance_at b s))

-- the owner of a live object
abbrev pub owner_there : Object → Option ℕ
owner_there o = then_some o.live o.owner

-- where an object is created: in the last free place that is in use, or in that of object 0; and the owner in its record
unfoldable pub free_place : Monitor → Slot
free_place m =
    record {
      place = record {
        object = free_below object_count m;
        owner = owner_there (object m (free_below object_count m));
      };
      recorded = (object m (free_below object_count m)).owner;
    }

-- two levels: s reads at the one that the other does not dominate
unfoldable pub level_apart : Place → ℕ → Level → Level → List Request
level_apart p s a b = by_comparison (compare a b) (requests_in (Reading p s a)) (requests_in (Reading p s b))

-- two clearances of subject s
unfoldable pub clearance_apart : Place → ℕ → Label → Label → List Request
clearance_apart p s None b = []
clearance_apart p s (Some a) None = []
clearance_apart p s (Some a) (Some b) = level_apart p s a b

-- the first subject whose clearances differ
unfoldable pub clearances_apart : Place → List Subject → List Subject → List Request
clearances_apart p a b = search subject_count (λ s. clearance_apart p s (clearance_at a s) (clearance_at b s))
