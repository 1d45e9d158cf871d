-- A site profile (change request §8): its ranges, what is inside it, and a state that keeps to it.
-- Assumes nothing.
use Rattle.std.specs.Prelude.{ℕ, ◌≤◌, ◌<◌, ◌≡◌, Bool, true, not, ◌&&◌, ◌||◌, leb, ltb, Some, None}
use Rattle.model.specs.declared.Level.{Level}
use Rattle.model.specs.Levels.{Label, LevelDominates, at_least}
use Rattle.model.specs.declared.Profile.{Profile}
use Rattle.model.specs.declared.Monitor.{Monitor}
use Rattle.model.specs.Tests.{all_below}
use Rattle.model.specs.State.{subject_count, object_count, clearance, enrolled, object}

-- "the subjects in use (1 to 16), objects in use (1 to 64), highest class (0 to 15)"; every set of sixteen needs is in range
pub record ProfileFits (p : Profile) : Type 0 where
  pub one-subject : 1 ≤ p.subjects
  pub subjects_fit : p.subjects ≤ subject_count
  pub one_object : 1 ≤ p.objects
  pub objects_fit : p.objects ≤ object_count
  pub class_fits : p.highest.class < 16

-- a profile by its four numbers, in the order in which the request names them
abbrev pub site : ℕ → ℕ → ℕ → ℕ → Profile
site subjects objects class needs = record { subjects = subjects; objects = objects; highest = record { class = class; needs = needs } }

-- the test of these ranges
unfoldable pub profile_fits : Profile → Bool
profile_fits p =
    (leb 1 p.subjects && leb p.subjects subject_count)
    && ((leb 1 p.objects && leb p.objects object_count)
    && ltb p.highest.class 16)

-- no "class or need outside it": the level that has the highest class and every need in use dominates it
abbrev pub LevelInside : Profile → Level → Type 0
LevelInside p l = LevelDominates p.highest l

abbrev pub level_inside : Profile → Level → Bool
level_inside p l = at_least p.highest l

-- "a clearance or label outside its profile"; an absent one has no class and no need
abbrev pub LabelInside : Profile → Label → Type 0
LabelInside p None = Unit {0}
LabelInside p (Some l) = LevelInside p l

unfoldable pub label_inside : Profile → Label → Bool
label_inside p None = true
label_inside p (Some l) = level_inside p l

-- "a record beyond the profile is absent": the record of subject s, that of object o, all of them
abbrev pub subject_inside : Monitor → ℕ → Bool
subject_inside m s = ltb s m.profile.subjects || not (enrolled m s)

abbrev pub object_inside : Monitor → ℕ → Bool
object_inside m o = ltb o m.profile.objects || not (object m o).live

unfoldable pub absent_beyond : Monitor → Bool
absent_beyond m = all_below subject_count (subject_inside m) && all_below object_count (object_inside m)

-- no "clearance or label outside its profile": the clearance of subject s, the label of object o, all of them
abbrev pub clearance_inside : Monitor → ℕ → Bool
clearance_inside m s = label_inside m.profile (clearance m s)

abbrev pub object_label_inside : Monitor → ℕ → Bool
object_label_inside m o = label_inside m.profile (object m o).label

unfoldable pub levels_inside : Monitor → Bool
levels_inside m = all_below subject_count (clearance_inside m) && all_below object_count (object_label_inside m)

-- a state inside its profile: every enrolled subject, every live object, every clearance and every label
pub record Inside (m : Monitor) : Type 0 where
  pub fitting_profile : ProfileFits m.profile
  pub subjects_inside : (s : ℕ) → enrolled m s ≡ true → s < m.profile.subjects
  pub objects_inside : (o : ℕ) → (object m o).live ≡ true → o < m.profile.objects
  pub clearances_inside : (s : ℕ) → LabelInside m.profile (clearance m s)
  pub labels_inside : (o : ℕ) → LabelInside m.profile (object m o).label
