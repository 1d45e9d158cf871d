-- The state ("State" in the scope): what is read of it, what is stored into it, and what well formed means.
-- Assumes nothing.
use Rattle.std.specs.Prelude.{ℕ, ◌<◌, ◌≡◌, Bool, true, false, List, length, get_or, set, replicate, Some, None}
use Rattle.model.specs.declared.Level.{Level}
use Rattle.model.specs.Levels.{Label, present}
use Rattle.model.specs.declared.Subject.{Subject}
use Rattle.model.specs.declared.Object.{Object}
use Rattle.model.specs.declared.Profile.{Profile}
use Rattle.model.specs.declared.Monitor.{Monitor}

-- "Sixteen subjects", "Sixty-four objects"
abbrev pub subject_count : ℕ
subject_count = 16

abbrev pub object_count : ℕ
object_count = 64

-- the bits of a level, wherever it is packed: "class 4, needs 16"
abbrev pub class_width : ℕ
class_width = 4

abbrev pub needs_width : ℕ
needs_width = 16

-- "the widest profile" (change request §8): every subject and object, every class and need is in use
abbrev pub widest : Profile
widest = record { subjects = subject_count; objects = object_count; highest = record { class = 15; needs = 65535 } }

-- "a row of sixteen sets, one for each subject", all empty
abbrev pub no_modes : List ℕ
no_modes = replicate subject_count 0

-- "An object that isn't live has no owner, label, right or access", nor a company number or a parent
abbrev pub no_object : Object
no_object = record { live = false; owner = 0; label = None; companies = 0; rights = no_modes; held = no_modes; parent = 0 }

-- "absent": a subject that is not enrolled
abbrev pub nobody : Subject
nobody = record { clearance = None }

-- the clearance of subject s, the record of object o; past the end nobody and no object
abbrev pub clearance_at : List Subject → ℕ → Label
clearance_at l s = (get_or l s nobody).clearance

abbrev pub object_at : List Object → ℕ → Object
object_at l o = get_or l o no_object

abbrev pub clearance : Monitor → ℕ → Label
clearance m s = clearance_at m.subjects s

abbrev pub enrolled : Monitor → ℕ → Bool
enrolled m s = present (clearance m s)

abbrev pub object : Monitor → ℕ → Object
object m o = object_at m.objects o

-- the matrix, and "the accesses held now": the set of subject s at an object
abbrev pub rights_of : Object → ℕ → ℕ
rights_of ob s = get_or ob.rights s 0

abbrev pub held_by : Object → ℕ → ℕ
held_by ob s = get_or ob.held s 0

-- one part of a record becomes another: an owner, with whom it is live; the label; the company numbers; the parent; both rows; the right or
-- access set of subject s
abbrev pub with_owner : Object → ℕ → Object
with_owner ob s =
    record { live = true; owner = s; label = ob.label; companies = ob.companies; rights = ob.rights; held = ob.held; parent = ob.parent }

abbrev pub with_label : Object → Label → Object
with_label ob l =
    record { live = ob.live; owner = ob.owner; label = l; companies = ob.companies; rights = ob.rights; held = ob.held; parent = ob.parent }

abbrev pub with_companies : Object → ℕ → Object
with_companies ob n =
    record { live = ob.live; owner = ob.owner; label = ob.label; companies = n; rights = ob.rights; held = ob.held; parent = ob.parent }

abbrev pub with_parent : Object → ℕ → Object
with_parent ob p =
    record { live = ob.live; owner = ob.owner; label = ob.label; companies = ob.companies; rights = ob.rights; held = ob.held; parent = p }

abbrev pub with_rows : Object → List ℕ → List ℕ → Object
with_rows ob rights held =
    record { live = ob.live; owner = ob.owner; label = ob.label; companies = ob.companies; rights = rights; held = held; parent = ob.parent }

abbrev pub with_rights : Object → ℕ → ℕ → Object
with_rights ob s n = with_rows ob (set ob.rights s n) ob.held

abbrev pub with_held : Object → ℕ → ℕ → Object
with_held ob s n = with_rows ob ob.rights (set ob.held s n)

abbrev pub with_object : Monitor → ℕ → Object → Monitor
with_object m o ob = record { profile = m.profile; subjects = m.subjects; objects = set m.objects o ob }

-- "A monitor is begun fresh from an enrolment table with no live object", under a profile
abbrev pub fresh : Profile → List Subject → Monitor
fresh p l = record { profile = p; subjects = l; objects = replicate object_count no_object }

-- "the empty monitor, nobody enrolled"; "the empty monitor that a refusal returns has it": the widest profile
abbrev pub empty_monitor : Monitor
empty_monitor = fresh widest (replicate subject_count nobody)

-- "a class, 0 to 15, and a set of needs-to-know numbered 0 to 15"
abbrev pub LevelFits : Level → Type 0
LevelFits l = (l.class < 16) × (l.needs < 65536)

abbrev pub LabelFits : Label → Type 0
LabelFits None = Unit {0}
LabelFits (Some l) = LevelFits l

-- the record of an object by itself
pub record ObjectShape (ob : Object) : Type 0 where
  pub rights_length : length ob.rights ≡ subject_count
  pub held_length : length ob.held ≡ subject_count
  pub rights-fit : (s : ℕ) → rights_of ob s < 16
  pub held_fit : (s : ℕ) → held_by ob s < 16
  pub owner_fits : ob.owner < subject_count
  pub label_fits : LabelFits ob.label
  -- "four 4-bit company numbers"
  pub companies_fit : ob.companies < 65536
  -- "7 parent bits" (change request §11)
  pub parent_fits : ob.parent < 128
  -- "An object that isn't live has no owner, label, right or access", nor a company number or a parent
  pub not_live : ob.live ≡ false → ob ≡ no_object

-- the record of an object, beside the subjects of its monitor
pub record WellFormedObject (l : List Subject) (ob : Object) : Type 0 where
  pub shape : ObjectShape ob
  -- "an absent subject owns nothing and has no right or access"
  pub owner_enrolled : ob.live ≡ true → present (clearance_at l ob.owner) ≡ true
  pub absent_rights : (s : ℕ) → present (clearance_at l s) ≡ false → rights_of ob s ≡ 0
  pub absent_held : (s : ℕ) → present (clearance_at l s) ≡ false → held_by ob s ≡ 0

-- the whole state
pub record WellFormed (m : Monitor) : Type 0 where
  pub subjects_length : length m.subjects ≡ subject_count
  pub clearances_fit : (s : ℕ) → LabelFits (clearance m s)
  pub objects-length : length m.objects ≡ object_count
  pub objects_formed : (o : ℕ) → WellFormedObject m.subjects (object m o)
