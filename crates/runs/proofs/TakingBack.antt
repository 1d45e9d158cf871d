-- Taking back (change request §9), from table W, by computation: a mistaken delete, and a journal that is full.
-- Assumes nothing.
use Prim.Native.Nat.{ℕ, zero, suc}
use mathlib.Core.Path.{◌≡◌, refl}
use mathlib.Core.Bool.{true, false}
use mathlib.Core.List.{List, [], ◌∷◌, ◌++◌, map}
use lib.ListN.{replicate}
use Rattle.bits.specs.Bits.{odd, to_bits, from_bits, bytes_to_bits, bits_to_bytes, field, cut, all_zero}
use Rattle.std.specs.Prelude.{Some}
use Rattle.model.specs.declared.Mode.TheVariants.{Read, Append}
use Rattle.model.specs.declared.Request.{Request}
use Rattle.model.specs.declared.Request.TheVariants.{Get, Give, Create, Delete, ChangeLevel}
use Rattle.model.specs.Tests.{implies, unless}
use Rattle.model.specs.Levels.{compare, level_dominates, dominates, same_label}
use Rattle.model.specs.Modes.{has, add}
use Rattle.model.specs.State.{widest, object, rights_of, held_by}
use Rattle.model.specs.Profiles.{profile_fits, label_inside, absent_beyond, levels_inside}
use Rattle.model.specs.Hierarchy.{meets, without, has_child, parent_live, label_under, labels_rise}
use Rattle.model.specs.Requests.{fields, mode_allowed, unused_zero, parent_within, fields_formed, within, well_formed, request, creation, decode_fields, decode, pack, encode}
use Rattle.model.specs.Companies.{company, compatible, confined}
use Rattle.model.specs.Rules.{simple_all, star_pair, star_from, star_for, star_all, not_lowered, changed, already, checks, answer, step, wall_pair, wall_from, wall_for, wall_all}
use Rattle.model.specs.Runs.{respond}
use Rattle.model.specs.Journal.{Journaled, entered, without_entries, ask, restored, take_back, taking_back, Act, asks, takes_back, acted, answers}
use Rattle.model.specs.Reading.{label_from, label_form, table_from, table_form, table_checks, begin, read_table}
use Rattle.model.specs.Beginnings.{table, begun, left}
use Rattle.invariants.specs.TakingBack.{zeros}
use Rattle.runs.specs.MarkedRun.{level, table_w}

abbrev W : Journaled
W = without_entries (begun (table widest table_w)).monitor

abbrev of : List Request → List Act
of qs = map (λ (q : Request). asks (encode q)) qs

-- ---- "A mistaken delete during commissioning costs the engineer the whole rights list"

-- subject 1 makes the heat trace, object 3, gives subject 0 r and a, and subject 0 holds r
abbrev commissioned : List Request
commissioned =
    Create 1 3 (creation true 0) ∷ ChangeLevel 1 3 (level 1 0x0001) ∷ Give 1 0 3 Read ∷ Give 1 0 3 Append ∷ Get 0 3 Read ∷ []

-- the delete, requests that are refused because of it, and the taking-back
abbrev mistaken : List Act
mistaken = of (Delete 1 3 ∷ Get 0 3 Read ∷ Give 1 0 3 Read ∷ []) ++ (takes_back ∷ [])

-- the rights list, the access and the label are there again
pub mistaken-delete : (answers (of commissioned ++ mistaken) W ≡ 0 ∷ 0 ∷ 0 ∷ 0 ∷ 0 ∷ 0 ∷ 4 ∷ 4 ∷ 0 ∷ [])
    × (rights_of (object (left (table widest table_w) (of commissioned ++ mistaken)) 3) 0 ≡ 10)
    × (held_by (object (left (table widest table_w) (of commissioned ++ mistaken)) 3) 0 ≡ 8)
    × ((object (left (table widest table_w) (of commissioned ++ mistaken)) 3).label ≡ Some (level 1 0x0001))
    × (left (table widest table_w) (of commissioned ++ mistaken) ≡ left (table widest table_w) (of commissioned))
unfolding table_w bits_to_bytes pack table_from table_form label_form label_from table_checks profile_fits absent_beyond levels_inside label_inside begin read_table all_zero bytes_to_bits to_bits odd cut from_bits field decode decode_fields fields well_formed fields_formed within mode_allowed unused_zero request respond step acted answers ask entered take_back taking_back restored checks already changed star_all star_for star_from star_pair wall_all wall_for wall_from wall_pair compatible confined company implies unless answer simple_all has add not_lowered same_label dominates level_dominates compare parent_within parent_live label_under labels_rise meets without has_child
mistaken-delete = (refl, refl, refl, refl, refl)

-- ---- "up to 32 entries": 33 requests with reply 0, and 33 takings-back

abbrev create : Request
create = Create 1 3 (creation false 0)

-- so many times a delete and a create
pub again : ℕ → List Request
again zero = []
again (suc n) = Delete 1 3 ∷ create ∷ again n

abbrev thirty_three : List Act
thirty_three = of (create ∷ again 16)

-- the first of them is not taken back: object 3 is as it left it
pub full-journal : (answers thirty_three W ≡ replicate 33 0)
    × (answers (replicate 33 takes_back) (acted thirty_three W) ≡ replicate 32 0 ++ (17 ∷ []))
    × ((object (acted (replicate 33 takes_back) (acted thirty_three W)).monitor 3).live ≡ true)
    × ((acted (replicate 33 takes_back) (acted thirty_three W)).monitor ≡ left (table widest table_w) (of (create ∷ [])))
unfolding again table_w bits_to_bytes pack table_from table_form label_form label_from table_checks profile_fits absent_beyond levels_inside label_inside begin read_table all_zero bytes_to_bits to_bits odd cut from_bits field decode decode_fields fields well_formed fields_formed within mode_allowed unused_zero request respond step acted answers ask entered take_back taking_back restored checks already changed star_all star_for star_from star_pair wall_all wall_for wall_from wall_pair compatible confined company implies unless answer simple_all has add not_lowered same_label dominates level_dominates compare parent_within parent_live label_under labels_rise meets without has_child
full-journal = (refl, refl, refl, refl)

-- what is asked of the n requests is met: of these 33 replies each is 0, of the first 32 behind the create too
pub zeros-met : (zeros (answers thirty_three W) ≡ 33) × (zeros (answers (of (again 16)) (acted (of (create ∷ [])) W)) ≡ 32)
unfolding again zeros table_w bits_to_bytes pack table_from table_form label_form label_from table_checks profile_fits absent_beyond levels_inside label_inside begin read_table all_zero bytes_to_bits to_bits odd cut from_bits field decode decode_fields fields well_formed fields_formed within mode_allowed unused_zero request respond step acted answers ask entered checks already changed star_all star_for star_from star_pair wall_all wall_for wall_from wall_pair compatible confined company implies unless answer simple_all has add not_lowered same_label dominates level_dominates compare parent_within parent_live label_under labels_rise meets without has_child
zeros-met = (refl, refl)
