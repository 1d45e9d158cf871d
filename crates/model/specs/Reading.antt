-- Reading a table and an image: what the bits say, their form, and the checks in order.
-- Assumes nothing.
use Rattle.std.specs.Prelude.{ℕ, ◌+◌, Bool, true, cond, ◌&&◌, ◌||◌, List, [], ◌∷◌, map, length, take, drop, eqb, Some, None}
use Rattle.bits.specs.Bits.{from_bits, bytes_to_bits, cut, first, all_zero}
use Rattle.model.specs.Levels.{Label, subset, present}
use Rattle.model.specs.declared.Subject.{Subject}
use Rattle.model.specs.declared.Object.{Object}
use Rattle.model.specs.declared.Profile.{Profile}
use Rattle.model.specs.declared.Monitor.{Monitor}
use Rattle.model.specs.declared.Decision.{Decision}
use Rattle.model.specs.declared.Decision.TheVariants.{NoRight, NoLabel, SimpleBroken, StarBroken, WrongLength, StrayBits, AbsentSubject, OutsideProfile, WallBroken, ParentNotLive, HierarchyBroken}
use Rattle.model.specs.declared.Response.{Response}
use Rattle.model.specs.Tests.{all_below, all_of, implies, first_failing}
use Rattle.model.specs.Modes.{any_needs_label}
use Rattle.model.specs.Companies.{companies_width}
use Rattle.model.specs.State.{subject_count, object_count, class_width, needs_width, no_object, clearance_at, rights_of, held_by, fresh, empty_monitor}
use Rattle.model.specs.Hierarchy.{parents_hold, labels_rise}
use Rattle.model.specs.Profiles.{profile_fits, absent_beyond, levels_inside}
use Rattle.model.specs.Decisions.{refuses}
use Rattle.model.specs.Rules.{simple_all, star_all, wall_all}
use Rattle.model.specs.Layout.{label_width, object_width, owner_width, set_width, pair_width, label_offset, companies_offset, sets_offset, sets_width, parent_width, parent_offset, table_size, image_size}

-- ---- what the bits of a record say

-- w bits of a record from bit i on, as a number
abbrev pub field_of : List Bool → ℕ → ℕ → ℕ
field_of b i w = from_bits (take w (drop i b))

-- present 1, class 4, needs 16
unfoldable pub label_from : List Bool → Label
label_from b = cond (first b) (Some (record { class = field_of b 1 class_width; needs = field_of b (1 + class_width) needs_width })) None

abbrev pub subject_from : List Bool → Subject
subject_from b = record { clearance = label_from b }

-- "four right bits and four access bits"
abbrev pub rights_from : List Bool → ℕ
rights_from b = field_of b 0 set_width

abbrev pub held_from : List Bool → ℕ
held_from b = field_of b set_width set_width

-- the sets of the sixteen subjects, side by side in the part of the record that is theirs
abbrev pub sets_in : List Bool → List (List Bool)
sets_in b = cut subject_count pair_width (take sets_width (drop sets_offset b))

abbrev pub live_from : List Bool → Object
live_from b =
    record {
      live = true;
      owner = field_of b 1 owner_width;
      label = label_from (take label_width (drop label_offset b));
      companies = field_of b companies_offset companies_width;
      rights = map rights_from (sets_in b);
      held = map held_from (sets_in b);
      parent = field_of b parent_offset parent_width;
    }

unfoldable pub object_from : List Bool → Object
object_from b = cond (first b) (live_from b) no_object

-- ---- "What is absent (a subject's table record, an object's whole record, a label) has all its other bits 0"

unfoldable pub label_form : List Bool → Bool
label_form b = first b || all_zero b

unfoldable pub object_form : List Bool → Bool
object_form b = cond (first b) (label_form (take label_width (drop label_offset b))) (all_zero b)

-- ---- the records in bytes

abbrev pub table_records : List ℕ → List (List Bool)
table_records b = cut subject_count label_width (bytes_to_bits b)

abbrev pub object_records : List ℕ → List (List Bool)
object_records b = cut object_count object_width (bytes_to_bits b)

unfoldable pub table_from : List ℕ → List Subject
table_from b = map subject_from (table_records b)

unfoldable pub table_form : List ℕ → Bool
table_form b = all_of label_form (table_records b)

-- from the bytes of the object records alone
unfoldable pub objects_from : List ℕ → List Object
objects_from b = map object_from (object_records b)

unfoldable pub objects_form : List ℕ → Bool
objects_form b = all_of object_form (object_records b)

-- "The object records begin at byte 42 and are read as a part of their own"
unfoldable pub monitor_from : Profile → List ℕ → Monitor
monitor_from p b = record { profile = p; subjects = table_from (take table_size b); objects = objects_from (drop table_size b) }

unfoldable pub image_form : List ℕ → Bool
image_form b = table_form (take table_size b) && objects_form (drop table_size b)

-- ---- the checks of a state, at one object

-- "an absent subject owns, has a right or holds"
unfoldable pub only_enrolled : List Subject → Object → Bool
only_enrolled l ob =
    implies ob.live (present (clearance_at l ob.owner))
    && all_below subject_count (λ (s : ℕ). present (clearance_at l s) || (eqb (rights_of ob s) 0 && eqb (held_by ob s) 0))

-- "access outside the matrix"
unfoldable pub within_matrix : Object → Bool
within_matrix ob = all_below subject_count (λ (s : ℕ). subset set_width (held_by ob s) (rights_of ob s))

-- "r, w or a held on such an object"
unfoldable pub held_labelled : Object → Bool
held_labelled ob = all_below subject_count (λ (s : ℕ). implies (any_needs_label (held_by ob s)) (present ob.label))

-- "12, 6, 7, 8, 9, each over the whole image before the next", 18 "in images after 9" (change request §10), 19 "in images after 18" and 20
-- "in images after 19" (change request §11)
abbrev pub state_list : Monitor → List (Bool × Decision)
state_list m =
    (all_of (only_enrolled m.subjects) m.objects, AbsentSubject)
    ∷ (all_of within_matrix m.objects, NoRight)
    ∷ (all_of held_labelled m.objects, NoLabel)
    ∷ (all_of (simple_all m.subjects) m.objects, SimpleBroken)
    ∷ (star_all m.objects, StarBroken)
    ∷ (wall_all m.objects, WallBroken)
    ∷ (parents_hold m.objects, ParentNotLive)
    ∷ (labels_rise m.objects, HierarchyBroken)
    ∷ []

unfoldable pub state_checks : Monitor → Decision
state_checks m = first_failing (state_list m)

-- the checks of a beginning under a profile, by whether it has its length, whether its records have their form, and the monitor that it says:
-- "16, a profile outside these ranges, before anything else is read"; 10; 11, and "a record beyond the profile is absent, and a bit in it gets
-- 11"; then 16, "a clearance or label outside its profile, checked directly after 11" (change request §8)
abbrev pub beginning_list : Bool → Bool → Monitor → List (Bool × Decision) → List (Bool × Decision)
beginning_list long formed m later =
    (profile_fits m.profile, OutsideProfile)
    ∷ (long, WrongLength)
    ∷ (formed && absent_beyond m, StrayBits)
    ∷ (levels_inside m, OutsideProfile)
    ∷ later

-- "Tables are checked 10, 11", and 16 before and behind these
unfoldable pub table_checks : Profile → List ℕ → Decision
table_checks p b = first_failing (beginning_list (eqb (length b) table_size) (table_form b) (fresh p (table_from b)) [])

-- "images 10, 11, 12, 6, 7, 8, 9", 18, 19 and 20 behind these, and 16 before 10 and behind 11
unfoldable pub image_checks : Profile → List ℕ → Decision
image_checks p b =
    first_failing (beginning_list (eqb (length b) image_size) (image_form b) (monitor_from p b) (state_list (monitor_from p b)))

-- ---- the answers

-- "returns 0 and its monitor"; refused: "the number and the empty monitor, nobody enrolled"
unfoldable pub begin : Decision → Monitor → Response
begin d m = record { decision = d; monitor = cond (refuses d) empty_monitor m }

unfoldable pub read_table : Profile → List ℕ → Response
read_table p b = begin (table_checks p b) (fresh p (table_from b))

unfoldable pub read_image : Profile → List ℕ → Response
read_image p b = begin (image_checks p b) (monitor_from p b)
