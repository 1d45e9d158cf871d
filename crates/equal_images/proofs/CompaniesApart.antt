-- Two states that differ in company numbers alone (change request §10), by computation from bytes: what tells them apart, under a profile that has no
-- need in use and so bounds every level.
-- Assumes nothing.
use Prim.Native.Nat.{ℕ}
use mathlib.Core.Path.{◌≡◌, refl}
use mathlib.Core.Bool.{true}
use mathlib.Core.List.{[], ◌∷◌, map}
use Rattle.bits.specs.Bits.{odd, to_bits, from_bits, bytes_to_bits, bits_to_bytes, field, cut, all_zero}
use Rattle.model.specs.declared.Monitor.{Monitor}
use Rattle.model.specs.declared.Request.TheVariants.{Create, SetCompanies}
use Rattle.model.specs.Tests.{implies, unless}
use Rattle.model.specs.Levels.{compare, level_dominates, dominates, same_label}
use Rattle.model.specs.Modes.{has, add}
use Rattle.model.specs.Profiles.{site, profile_fits, label_inside, absent_beyond, levels_inside}
use Rattle.model.specs.Requests.{fields, mode_allowed, unused_zero, parent_within, fields_formed, within, well_formed, request, creation, decode_fields, decode, pack, encode}
use Rattle.model.specs.Companies.{company, compatible, confined}
use Rattle.model.specs.Hierarchy.{meets, without, has_child, parent_live, label_under, labels_rise}
use Rattle.model.specs.Rules.{simple_all, star_pair, star_from, star_for, star_all, not_lowered, changed, already, checks, answer, step, wall_pair, wall_from, wall_for, wall_all}
use Rattle.model.specs.Runs.{respond, replies}
use Rattle.model.specs.Journal.{entered, ask, asks, acted}
use Rattle.model.specs.Reading.{label_from, label_form, table_from, table_form, table_checks, begin, read_table}
use Rattle.model.specs.Beginnings.{table, left}
use Rattle.telling.specs.Distinguish.{or_else, search, when, by_enrolment, by_life, by_owner, by_life_and_owner, by_below, to_parent, by_parent, by_standing, to_label, by_label, by_companies, by_right, by_access, by_object, free_below, read_at, to_clearance, by_clearance, distinguish}
use Rattle.equal_images.proofs.OneProfile.{low}

-- subject 0 alone makes object 0, with company numbers
abbrev with : ℕ → Monitor
with n = left (table (site 1 1 0 0) low) (map asks (map encode (Create 0 0 (creation true 0) ∷ SetCompanies 0 0 n ∷ [])))

-- company 1 of the first conflict class, and company 1 of the second
pub told-by-companies : (distinguish (with 0x1000) (with 0x0100) ≡ SetCompanies 0 0 0x1000 ∷ [])
    × (replies (map encode (distinguish (with 0x1000) (with 0x0100))) (with 0x1000) ≡ 1 ∷ [])
    × (replies (map encode (distinguish (with 0x1000) (with 0x0100))) (with 0x0100) ≡ 0 ∷ [])
unfolding low or_else search when by_enrolment by_life by_owner by_life_and_owner by_below to_parent by_parent by_standing to_label by_label by_companies by_right by_access by_object free_below read_at to_clearance by_clearance distinguish bits_to_bytes pack table_from table_form label_form label_from table_checks profile_fits absent_beyond levels_inside label_inside begin read_table all_zero bytes_to_bits to_bits odd cut from_bits field decode decode_fields fields well_formed fields_formed within mode_allowed unused_zero parent_within request respond step replies acted ask entered meets without has_child parent_live label_under labels_rise checks already changed star_all star_for star_from star_pair wall_all wall_for wall_from wall_pair compatible confined company implies unless answer simple_all has add not_lowered same_label dominates level_dominates compare
told-by-companies = (refl, refl, refl)
