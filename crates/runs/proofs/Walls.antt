-- Competing heat suppliers (change request §10), from table W, by computation: a run that meets the wall, images with company numbers, and what tells
-- two of them apart.
-- Assumes nothing.
use Prim.Native.Nat.{ℕ, ◌*◌}
use mathlib.Core.Path.{◌≡◌, refl}
use mathlib.Core.Bool.{true}
use mathlib.Core.List.{List, [], ◌∷◌, ◌++◌, map}
use lib.ListN.{replicate}
use Rattle.bits.specs.Bits.{odd, to_bits, from_bits, bytes_to_bits, bits_to_bytes, field, cut, all_zero, join}
use Rattle.model.specs.declared.Monitor.{Monitor}
use Rattle.model.specs.declared.Mode.TheVariants.{Execute}
use Rattle.model.specs.declared.Request.{Request}
use Rattle.model.specs.declared.Request.TheVariants.{Get, Create, SetCompanies}
use Rattle.model.specs.Tests.{implies, unless}
use Rattle.model.specs.Levels.{compare, level_dominates, dominates, same_label}
use Rattle.model.specs.Modes.{has, add}
use Rattle.model.specs.Companies.{company, compatible, confined}
use Rattle.model.specs.State.{widest}
use Rattle.model.specs.Profiles.{profile_fits, label_inside, absent_beyond, levels_inside}
use Rattle.model.specs.Decisions.{number}
use Rattle.model.specs.Hierarchy.{meets, ends, without, parent_live, parents_hold, label_under, labels_rise}
use Rattle.model.specs.Requests.{fields, mode_allowed, unused_zero, parent_within, fields_formed, within, well_formed, request, creation, decode_fields, decode, pack, encode}
use Rattle.model.specs.Rules.{simple_all, star_pair, star_from, star_for, star_all, not_lowered, changed, already, checks, answer, step, wall_pair, wall_from, wall_for, wall_all}
use Rattle.model.specs.Runs.{respond, replies}
use Rattle.model.specs.Journal.{ask, asks, acted}
use Rattle.model.specs.Layout.{label_bits, sets_bits, object_bits, image_bits, image_of}
use Rattle.model.specs.Reading.{label_from, label_form, table_from, table_form, table_checks, object_from, object_form, objects_from, objects_form, monitor_from, image_form, only_enrolled, within_matrix, held_labelled, image_checks, begin, read_table, read_image}
use Rattle.model.specs.Beginnings.{table, left}
use Rattle.runs.specs.MarkedRun.{table_w}

abbrev leaves : List Request → Monitor
leaves qs = left (table widest table_w) (map (λ (q : Request). asks (encode q)) qs)

-- subject 1 makes two objects, of company 1 and of company 2 of the first conflict class, and runs the first
abbrev competing : List Request
competing =
    Create 1 0 (creation true 0) ∷ Create 1 1 (creation true 0) ∷ SetCompanies 1 0 0x1000 ∷ SetCompanies 1 1 0x2000 ∷ Get 1 0 Execute ∷ []

-- it may not run the other, 18, until that has the same company; then it may not get the other company back, 18, and the same again is 1
abbrev met : List Request
met = Get 1 1 Execute ∷ SetCompanies 1 1 0x1000 ∷ Get 1 1 Execute ∷ SetCompanies 1 1 0x2000 ∷ SetCompanies 1 1 0x1000 ∷ []

pub wall-met : replies (map encode (competing ++ met)) (leaves []) ≡ 0 ∷ 0 ∷ 0 ∷ 0 ∷ 0 ∷ 18 ∷ 0 ∷ 0 ∷ 18 ∷ 1 ∷ []
unfolding replies table_w bits_to_bytes pack table_from table_form label_form label_from table_checks profile_fits absent_beyond levels_inside label_inside begin read_table all_zero bytes_to_bits to_bits odd cut from_bits field decode decode_fields fields well_formed fields_formed within mode_allowed unused_zero request respond step acted ask checks already changed star_all star_for star_from star_pair wall_all wall_for wall_from wall_pair compatible confined company implies unless answer simple_all has add not_lowered same_label dominates level_dominates compare parent_within parent_live label_under labels_rise meets without
wall-met = refl

-- ---- images

-- 1 0001, no label, 0001 0000 0000 0000, 0000 0000, 1111 0001 and fourteen sets, no parent; the same once more with company 1 or 2; 62 objects that are not live
abbrev image_with : ℕ → List ℕ
image_with company =
    table_w
    ++ (0x88 ∷ 0 ∷ 0 ∷ 0x04 ∷ 0 ∷ 0 ∷ 0x3C ∷ 0x40 ∷ (replicate 14 0
    ++ (0x44 ∷ 0 ∷ 0 ∷ 2 * company ∷ 0 ∷ 0 ∷ 0x1E ∷ 0x20 ∷ replicate 1386 0)))

-- what the run leaves
pub image-with-companies : image_of (leaves (competing ++ met)) ≡ image_with 1
unfolding label_bits sets_bits object_bits image_bits image_of join table_w bits_to_bytes pack table_from table_form label_form label_from table_checks profile_fits absent_beyond levels_inside label_inside begin read_table all_zero bytes_to_bits to_bits odd cut from_bits field decode decode_fields fields well_formed fields_formed within mode_allowed unused_zero request respond step acted ask checks already changed star_all star_for star_from star_pair wall_all wall_for wall_from wall_pair compatible confined company implies unless answer simple_all has add not_lowered same_label dominates level_dominates compare parent_within parent_live label_under labels_rise meets without
image-with-companies = refl

-- "18, .. in images after 9": the same with company 2 of that class beside company 1, and all else as it was; without company numbers, in the
-- 1,274 bytes that an image had before them, and without parents, in 1,402, it is 10: "older images are refused by length"
pub images-by-wall : (number (read_image widest (image_with 1)).decision ≡ 0)
    × (number (read_image widest (image_with 2)).decision ≡ 18)
    × (number (read_image widest (table_w ++ replicate 1232 0)).decision ≡ 10)
    × (number (read_image widest (table_w ++ replicate 1360 0)).decision ≡ 10)
unfolding read_image image_checks monitor_from image_form objects_from objects_form object_from object_form only_enrolled within_matrix held_labelled table_w bits_to_bytes pack table_from table_form label_form label_from table_checks profile_fits absent_beyond levels_inside label_inside begin read_table all_zero bytes_to_bits to_bits odd cut from_bits field decode decode_fields fields well_formed fields_formed within mode_allowed unused_zero request respond step acted ask checks already changed star_all star_for star_from star_pair wall_all wall_for wall_from wall_pair compatible confined company implies unless answer simple_all has add not_lowered same_label dominates level_dominates compare parent_within parent_live label_under labels_rise meets without parents_hold ends
images-by-wall = (refl, refl, refl, refl)
