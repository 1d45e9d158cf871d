-- Two states that differ in parents alone (change request §11), by computation from bytes: each way in which they are told apart.
-- Assumes nothing.
use Prim.Native.Nat.{ℕ}
use mathlib.Core.Path.{◌≡◌, refl}
use mathlib.Core.Bool.{false}
use mathlib.Core.List.{[], ◌∷◌, map}
use Rattle.bits.specs.Bits.{odd, to_bits, from_bits, bytes_to_bits, bits_to_bytes, field, cut, all_zero}
use Rattle.model.specs.declared.Monitor.{Monitor}
use Rattle.model.specs.declared.Request.TheVariants.{Create, Delete}
use Rattle.model.specs.Tests.{implies, unless}
use Rattle.model.specs.Levels.{compare, level_dominates, dominates, same_label}
use Rattle.model.specs.Modes.{has, add}
use Rattle.model.specs.Profiles.{site, profile_fits, label_inside, absent_beyond, levels_inside}
use Rattle.model.specs.Requests.{fields, mode_allowed, unused_zero, parent_within, fields_formed, within, well_formed, request, creation, decode_fields, decode, pack, encode}
use Rattle.model.specs.Companies.{company, compatible, confined}
use Rattle.model.specs.Hierarchy.{meets, without, has_child, parent_live, label_under, labels_rise}
use Rattle.model.specs.Rules.{simple_all, star_pair, star_from, star_for, star_all, not_lowered, changed, already, checks, answer, step, wall_pair, wall_from, wall_for, wall_all}
use Rattle.model.specs.Runs.{respond, replies}
use Rattle.model.specs.Journal.{entered, ask, asks, acted}
use Rattle.model.specs.Reading.{label_from, label_form, table_from, table_form, table_checks, begin, read_table}
use Rattle.model.specs.Beginnings.{table, left}
use Rattle.telling.specs.Distinguish.{or_else, search, when, by_enrolment, by_life, by_owner, by_life_and_owner, by_below, to_parent, by_parent, by_standing, to_label, by_label, by_companies, by_right, by_access, by_object, free_below, read_at, to_clearance, by_clearance, distinguish}
use Rattle.equal_images.proofs.OneProfile.{low}

-- subject 0 alone makes three objects, each under another, "number plus one or 0"
abbrev tree : ℕ → ℕ → ℕ → ℕ → ℕ → ℕ → Monitor
tree a p b q c r =
    left (table (site 1 3 0 0) low) (map asks (map encode (Create 0 a (creation false p) ∷ Create 0 b (creation false q) ∷ Create 0 c (creation false r) ∷ [])))

-- object 1 is under 0, and under none
pub told-by-a-parent : (distinguish (tree 0 0 1 1 2 0) (tree 0 0 1 0 2 0) ≡ Delete 0 0 ∷ Create 0 1 (creation false 0) ∷ [])
    × (replies (map encode (distinguish (tree 0 0 1 1 2 0) (tree 0 0 1 0 2 0))) (tree 0 0 1 1 2 0) ≡ 0 ∷ 0 ∷ [])
    × (replies (map encode (distinguish (tree 0 0 1 1 2 0) (tree 0 0 1 0 2 0))) (tree 0 0 1 0 2 0) ≡ 0 ∷ 5 ∷ [])
unfolding low or_else search when by_enrolment by_life by_owner by_life_and_owner by_below to_parent by_parent by_standing to_label by_label by_companies by_right by_access by_object free_below read_at to_clearance by_clearance distinguish bits_to_bytes pack table_from table_form label_form label_from table_checks profile_fits absent_beyond levels_inside label_inside begin read_table all_zero bytes_to_bits to_bits odd cut from_bits field decode decode_fields fields well_formed fields_formed within mode_allowed unused_zero parent_within request respond step replies acted ask entered meets without has_child parent_live label_under labels_rise checks already changed star_all star_for star_from star_pair wall_all wall_for wall_from wall_pair compatible confined company implies unless answer simple_all has add not_lowered same_label dominates level_dominates compare
told-by-a-parent = (refl, refl, refl)

-- object 0 is in 1, which is in 2; and 0 is in 2, which is in 1. Both parents are above object 0 in both: they are told apart by what is above them
pub told-by-two-parents : (distinguish (tree 2 0 1 3 0 2) (tree 1 0 2 2 0 3) ≡ Delete 0 2 ∷ Create 0 1 (creation false 0) ∷ [])
    × (replies (map encode (distinguish (tree 2 0 1 3 0 2) (tree 1 0 2 2 0 3))) (tree 2 0 1 3 0 2) ≡ 0 ∷ 0 ∷ [])
    × (replies (map encode (distinguish (tree 2 0 1 3 0 2) (tree 1 0 2 2 0 3))) (tree 1 0 2 2 0 3) ≡ 0 ∷ 5 ∷ [])
unfolding low or_else search when by_enrolment by_life by_owner by_life_and_owner by_below to_parent by_parent by_standing to_label by_label by_companies by_right by_access by_object free_below read_at to_clearance by_clearance distinguish bits_to_bytes pack table_from table_form label_form label_from table_checks profile_fits absent_beyond levels_inside label_inside begin read_table all_zero bytes_to_bits to_bits odd cut from_bits field decode decode_fields fields well_formed fields_formed within mode_allowed unused_zero parent_within request respond step replies acted ask entered meets without has_child parent_live label_under labels_rise checks already changed star_all star_for star_from star_pair wall_all wall_for wall_from wall_pair compatible confined company implies unless answer simple_all has add not_lowered same_label dominates level_dominates compare
told-by-two-parents = (refl, refl, refl)

-- object 0 is in 2, which is in 1, and in 1: object 1 is above it in both, and 2 in one
pub told-by-the-second : (distinguish (tree 1 0 2 0 0 2) (tree 1 0 2 2 0 3) ≡ Delete 0 2 ∷ Create 0 0 (creation false 0) ∷ [])
    × (replies (map encode (distinguish (tree 1 0 2 0 0 2) (tree 1 0 2 2 0 3))) (tree 1 0 2 0 0 2) ≡ 0 ∷ 5 ∷ [])
    × (replies (map encode (distinguish (tree 1 0 2 0 0 2) (tree 1 0 2 2 0 3))) (tree 1 0 2 2 0 3) ≡ 0 ∷ 0 ∷ [])
unfolding low or_else search when by_enrolment by_life by_owner by_life_and_owner by_below to_parent by_parent by_standing to_label by_label by_companies by_right by_access by_object free_below read_at to_clearance by_clearance distinguish bits_to_bytes pack table_from table_form label_form label_from table_checks profile_fits absent_beyond levels_inside label_inside begin read_table all_zero bytes_to_bits to_bits odd cut from_bits field decode decode_fields fields well_formed fields_formed within mode_allowed unused_zero parent_within request respond step replies acted ask entered meets without has_child parent_live label_under labels_rise checks already changed star_all star_for star_from star_pair wall_all wall_for wall_from wall_pair compatible confined company implies unless answer simple_all has add not_lowered same_label dominates level_dominates compare
told-by-the-second = (refl, refl, refl)
