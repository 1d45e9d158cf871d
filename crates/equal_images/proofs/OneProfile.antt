-- Why image equality is claimed "between monitors of one profile" (change request §8): equal images under two profiles that reply differently. And
-- what tells two states apart under a profile with one subject and one object. All by computation from the bytes.
-- Assumes nothing.
use Prim.Native.Nat.{ℕ}
use mathlib.Core.Path.{◌≡◌, refl, ap₂}
use mathlib.Core.Bool.{false}
use mathlib.Core.List.{List, [], ◌∷◌, ◌++◌, map}
use lib.ListN.{replicate}
use Rattle.bits.specs.Bits.{odd, to_bits, from_bits, bytes_to_bits, bits_to_bytes, field, cut, all_zero}
use Rattle.model.specs.declared.Level.{Level}
use Rattle.model.specs.declared.Subject.{Subject}
use Rattle.model.specs.declared.Object.{Object}
use Rattle.model.specs.declared.Profile.{Profile}
use Rattle.model.specs.declared.Monitor.{Monitor}
use Rattle.model.specs.declared.Mode.TheVariants.{Read}
use Rattle.model.specs.declared.Request.{Request}
use Rattle.model.specs.declared.Request.TheVariants.{Get, Create, Delete, ChangeLevel}
use Rattle.model.specs.Tests.{implies, unless}
use Rattle.model.specs.Levels.{compare, level_dominates, dominates, same_label}
use Rattle.model.specs.Modes.{has, add}
use Rattle.model.specs.Profiles.{site, profile_fits, label_inside, absent_beyond, levels_inside}
use Rattle.model.specs.Requests.{fields, mode_allowed, unused_zero, parent_within, fields_formed, within, well_formed, request, creation, decode_fields, decode, pack, encode}
use Rattle.model.specs.Companies.{company, compatible, confined}
use Rattle.model.specs.Hierarchy.{meets, without, has_child, parent_live, label_under, labels_rise}
use Rattle.model.specs.Rules.{simple_all, star_pair, star_from, star_for, star_all, not_lowered, changed, already, checks, answer, step, wall_pair, wall_from, wall_for, wall_all}
use Rattle.model.specs.Runs.{respond, replies}
use Rattle.model.specs.Journal.{entered, ask, asks, acted}
use Rattle.model.specs.Layout.{image_size, table_bits, objects_bits, image_bits, image_of}
use Rattle.model.specs.Reading.{label_from, label_form, table_from, table_form, table_checks, begin, read_table}
use Rattle.model.specs.Beginnings.{table, Accepted, left}
use Rattle.telling.specs.Distinguish.{or_else, search, when, by_enrolment, by_life, by_owner, by_life_and_owner, by_below, to_parent, by_parent, by_standing, to_label, by_label, by_companies, by_right, by_access, by_object, free_below, read_at, to_clearance, by_clearance, distinguish}

abbrev level : ℕ → Level
level class = record { class = class; needs = 0 }

-- one subject, so many objects, a highest class, and no need in use
abbrev one_subject : ℕ → ℕ → Profile
one_subject objects class = site 1 objects class 0

-- tables with subject 0 alone, of class 0 and of class 1
unfoldable pub low : List ℕ
low = 0x80 ∷ replicate 41 0

pub high : List ℕ
high = 0x88 ∷ replicate 41 0

abbrev begun_low : Profile → List Request → Monitor
begun_low p qs = left (table p low) (map asks (map encode qs))

-- the image holds the subjects and the objects, and not the profile
image-parts : (m n : Monitor) → m.subjects ≡ n.subjects → m.objects ≡ n.objects → image_of m ≡ image_of n
unfolding image_of image_bits
image-parts m n subjects objects = ap₂ (λ (a : List Subject) (b : List Object). bits_to_bytes image_size (table_bits a ++ objects_bits b)) subjects objects

-- one object in use, and two: get r of object 1 draws 2 from the one and 4 from the other
pub objects-in-use : Accepted (table (one_subject 1 0) low) × Accepted (table (one_subject 2 0) low)
    × (image_of (begun_low (one_subject 1 0) []) ≡ image_of (begun_low (one_subject 2 0) []))
    × (replies (map encode (Get 0 1 Read ∷ [])) (begun_low (one_subject 1 0) []) ≡ 2 ∷ [])
    × (replies (map encode (Get 0 1 Read ∷ [])) (begun_low (one_subject 2 0) []) ≡ 4 ∷ [])
unfolding low bits_to_bytes pack table_from table_form label_form label_from table_checks profile_fits absent_beyond levels_inside label_inside begin read_table all_zero bytes_to_bits to_bits odd cut from_bits field decode decode_fields fields well_formed fields_formed within mode_allowed unused_zero parent_within request respond step replies acted ask entered meets without has_child parent_live label_under labels_rise checks already changed star_all star_for star_from star_pair wall_all wall_for wall_from wall_pair compatible confined company implies unless answer simple_all has add not_lowered same_label dominates level_dominates compare
objects-in-use = (refl, refl, image-parts _ _ refl refl, refl, refl)

-- highest class 0, and 1: after a create, a change of level to class 1 draws 2 from the one and 0 from the other
pub class-in-use : Accepted (table (one_subject 1 0) low) × Accepted (table (one_subject 1 1) low)
    × (image_of (begun_low (one_subject 1 0) (Create 0 0 (creation false 0) ∷ [])) ≡ image_of (begun_low (one_subject 1 1) (Create 0 0 (creation false 0) ∷ [])))
    × (replies (map encode (ChangeLevel 0 0 (level 1) ∷ [])) (begun_low (one_subject 1 0) (Create 0 0 (creation false 0) ∷ [])) ≡ 2 ∷ [])
    × (replies (map encode (ChangeLevel 0 0 (level 1) ∷ [])) (begun_low (one_subject 1 1) (Create 0 0 (creation false 0) ∷ [])) ≡ 0 ∷ [])
unfolding low bits_to_bytes pack table_from table_form label_form label_from table_checks profile_fits absent_beyond levels_inside label_inside begin read_table all_zero bytes_to_bits to_bits odd cut from_bits field decode decode_fields fields well_formed fields_formed within mode_allowed unused_zero parent_within request respond step replies acted ask entered meets without has_child parent_live label_under labels_rise checks already changed star_all star_for star_from star_pair wall_all wall_for wall_from wall_pair compatible confined company implies unless answer simple_all has add not_lowered same_label dominates level_dominates compare
class-in-use = (refl, refl, image-parts _ _ refl refl, refl, refl)

-- what subject 0 is asked in the only slot
abbrev reading : List Request
reading = Create 0 0 (creation false 0) ∷ ChangeLevel 0 0 (level 1) ∷ Get 0 0 Read ∷ []

-- one subject and one object, and two clearances: three requests where the only slot is free, and four where it is live
pub told-in-one-slot :
    (distinguish (left (table (one_subject 1 1) low) []) (left (table (one_subject 1 1) high) []) ≡ reading)
    × (distinguish (left (table (one_subject 1 1) low) (asks (encode (Create 0 0 (creation false 0))) ∷ [])) (left (table (one_subject 1 1) high) (asks (encode (Create 0 0 (creation false 0))) ∷ []))
    ≡ Delete 0 0 ∷ reading)
    × (replies (map encode reading) (left (table (one_subject 1 1) low) []) ≡ 0 ∷ 0 ∷ 8 ∷ [])
    × (replies (map encode reading) (left (table (one_subject 1 1) high) []) ≡ 0 ∷ 0 ∷ 0 ∷ [])
unfolding low high or_else search when by_enrolment by_life by_owner by_life_and_owner by_below to_parent by_parent by_standing to_label by_label by_companies by_right by_access by_object free_below read_at to_clearance by_clearance distinguish bits_to_bytes pack table_from table_form label_form label_from table_checks profile_fits absent_beyond levels_inside label_inside begin read_table all_zero bytes_to_bits to_bits odd cut from_bits field decode decode_fields fields well_formed fields_formed within mode_allowed unused_zero parent_within request respond step replies acted ask entered meets without has_child parent_live label_under labels_rise checks already changed star_all star_for star_from star_pair wall_all wall_for wall_from wall_pair compatible confined company implies unless answer simple_all has add not_lowered same_label dominates level_dominates compare
told-in-one-slot = (refl, refl, refl, refl)
