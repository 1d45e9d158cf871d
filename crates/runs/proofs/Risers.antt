-- A run with objects under objects (change request §11), by computation from bytes: "A riser contains flats, and a flat contains meters".
-- Assumes nothing.
use Prim.Native.Nat.{ℕ}
use mathlib.Core.Path.{◌≡◌, refl}
use mathlib.Core.Bool.{true, false}
use mathlib.Core.List.{List, [], ◌∷◌, ◌++◌, map}
use Rattle.bits.specs.Bits.{odd, to_bits, from_bits, bytes_to_bits, bits_to_bytes, field, cut, all_zero}
use Rattle.model.specs.declared.Object.{Object}
use Rattle.model.specs.declared.Request.{Request}
use Rattle.model.specs.declared.Request.TheVariants.{Create, Delete, ChangeLevel}
use Rattle.model.specs.Tests.{implies, unless}
use Rattle.model.specs.Levels.{compare, level_dominates, dominates, same_label}
use Rattle.model.specs.Modes.{has, add}
use Rattle.model.specs.State.{widest, object}
use Rattle.model.specs.Profiles.{profile_fits, label_inside, absent_beyond, levels_inside}
use Rattle.model.specs.Hierarchy.{meets, without, has_child, parent_live, label_under, labels_rise}
use Rattle.model.specs.Requests.{fields, mode_allowed, unused_zero, parent_within, fields_formed, within, well_formed, request, creation, decode_fields, decode, pack, encode}
use Rattle.model.specs.Companies.{company, compatible, confined}
use Rattle.model.specs.Rules.{simple_all, star_pair, star_from, star_for, star_all, not_lowered, changed, already, checks, answer, step, wall_pair, wall_from, wall_for, wall_all}
use Rattle.model.specs.Runs.{respond}
use Rattle.model.specs.Journal.{Journaled, entered, without_entries, ask, restored, take_back, taking_back, Act, asks, takes_back, acted, answers}
use Rattle.model.specs.Reading.{label_from, label_form, table_from, table_form, table_checks, begin, read_table}
use Rattle.model.specs.Beginnings.{table, begun}
use Rattle.runs.specs.MarkedRun.{level, table_w}

abbrev W : Journaled
W = without_entries (begun (table widest table_w)).monitor

abbrev of : List Request → List Act
of qs = map (λ (q : Request). asks (encode q)) qs

-- subject 1 makes the riser, object 0, a flat in it, object 1, and a meter in the flat, object 2. Then: object 3 in itself and in object 5, which is not
-- live, 19; a live object, 5, also where its parent is itself
abbrev built : List Request
built =
    Create 1 0 (creation false 0) ∷ Create 1 1 (creation false 1) ∷ Create 1 2 (creation false 2)
    ∷ Create 1 3 (creation false 4) ∷ Create 1 3 (creation false 6) ∷ Create 1 1 (creation false 2) ∷ []

-- "A labelled child has a labelled parent whose label it dominates": the flat before the riser, 20; the riser; the flat below it, 20, and above it; the
-- meter; the riser above the flat, 20, then as high as the flat; the same again, 1
abbrev labelled : List Request
labelled =
    ChangeLevel 1 1 (level 1 0) ∷ ChangeLevel 1 0 (level 1 0) ∷ ChangeLevel 1 1 (level 0 0) ∷ ChangeLevel 1 1 (level 2 0)
    ∷ ChangeLevel 1 2 (level 2 1) ∷ ChangeLevel 1 0 (level 3 0) ∷ ChangeLevel 1 0 (level 2 0) ∷ ChangeLevel 1 0 (level 2 0) ∷ []

pub riser-met : answers (of (built ++ labelled)) W ≡ 0 ∷ 0 ∷ 0 ∷ 19 ∷ 19 ∷ 5 ∷ 20 ∷ 0 ∷ 20 ∷ 0 ∷ 0 ∷ 20 ∷ 0 ∷ 1 ∷ []
unfolding table_w bits_to_bytes pack table_from table_form label_form label_from table_checks profile_fits absent_beyond levels_inside label_inside begin read_table all_zero bytes_to_bits to_bits odd cut from_bits field decode decode_fields fields well_formed fields_formed within mode_allowed unused_zero request respond step acted answers ask entered take_back taking_back restored checks already changed star_all star_for star_from star_pair wall_all wall_for wall_from wall_pair compatible confined company implies unless answer simple_all has add not_lowered same_label dominates level_dominates compare parent_within parent_live label_under labels_rise meets without has_child
riser-met = refl

-- ---- "A deletion that took children empties the journal, and takings-back are counted from there"

-- the state behind the run, and object o of it
abbrev after : List Act → Journaled
after l = acted (of (built ++ labelled) ++ l) W

abbrev object_after : List Act → ℕ → Object
object_after l o = object (after l).monitor o

-- a meter is taken back; the flat goes with its meter, and nothing is taken back: 17; a new object behind that is, and then 17 again
pub journal-emptied : (answers (of (Delete 1 2 ∷ []) ++ (takes_back ∷ [])) (after []) ≡ 0 ∷ 0 ∷ [])
    × (object_after (of (Delete 1 2 ∷ []) ++ (takes_back ∷ [])) 2 ≡ object_after [] 2)
    × (answers (of (Delete 1 1 ∷ []) ++ (takes_back ∷ [])) (after []) ≡ 0 ∷ 17 ∷ [])
    × (map (λ (o : ℕ). (object_after (of (Delete 1 1 ∷ [])) o).live) (0 ∷ 1 ∷ 2 ∷ []) ≡ true ∷ false ∷ false ∷ [])
    × (answers (of (Delete 1 1 ∷ Create 1 5 (creation false 0) ∷ []) ++ (takes_back ∷ takes_back ∷ [])) (after []) ≡ 0 ∷ 0 ∷ 0 ∷ 17 ∷ [])
unfolding table_w bits_to_bytes pack table_from table_form label_form label_from table_checks profile_fits absent_beyond levels_inside label_inside begin read_table all_zero bytes_to_bits to_bits odd cut from_bits field decode decode_fields fields well_formed fields_formed within mode_allowed unused_zero request respond step acted answers ask entered take_back taking_back restored checks already changed star_all star_for star_from star_pair wall_all wall_for wall_from wall_pair compatible confined company implies unless answer simple_all has add not_lowered same_label dominates level_dominates compare parent_within parent_live label_under labels_rise meets without has_child
journal-emptied = (refl, refl, refl, refl, refl)

-- "on the top owner's request alone": subject 0 owns the meter in the flat of subject 1, who deletes it with the flat
pub top-owner-alone : (answers (of (Create 1 1 (creation false 0) ∷ Create 0 2 (creation false 2) ∷ Delete 1 2 ∷ Delete 1 1 ∷ Delete 0 2 ∷ [])) W ≡ 0 ∷ 0 ∷ 6 ∷ 0 ∷ 4 ∷ [])
unfolding table_w bits_to_bytes pack table_from table_form label_form label_from table_checks profile_fits absent_beyond levels_inside label_inside begin read_table all_zero bytes_to_bits to_bits odd cut from_bits field decode decode_fields fields well_formed fields_formed within mode_allowed unused_zero request respond step acted answers ask entered take_back taking_back restored checks already changed star_all star_for star_from star_pair wall_all wall_for wall_from wall_pair compatible confined company implies unless answer simple_all has add not_lowered same_label dominates level_dominates compare parent_within parent_live label_under labels_rise meets without has_child
top-owner-alone = refl
