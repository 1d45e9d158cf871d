-- A run without lowering (change request §3), from table W: an owner that tries to publish a heat trace of class 3, by computation.
-- Assumes nothing.
use Prim.Native.Nat.{ℕ, ◌≤◌}
use native.Mathlib.Omega.{arith}
use mathlib.Core.Path.{◌≡◌, refl, sym, ap, ◌∙◌}
use mathlib.Core.Logic.{◌≢◌}
use mathlib.Core.Bool.{true, false}
use mathlib.Core.List.{List, [], ◌∷◌, ◌++◌, map}
use lib.ListN.{get_or, take}
use lib.Dec.{leb}
use borrow.Author.Tests.{le-leb}
use Rattle.bits.specs.Bits.{odd, to_bits, from_bits, bytes_to_bits, bits_to_bytes, field, cut, join, all_zero}
use Rattle.std.specs.Prelude.{Some, None}
use Rattle.model.specs.declared.Monitor.{Monitor}
use Rattle.model.specs.declared.Mode.TheVariants.{Read}
use Rattle.model.specs.declared.Request.{Request}
use Rattle.model.specs.declared.Request.TheVariants.{Get, Give, Create, Delete, ChangeLevel}
use Rattle.model.specs.Tests.{all_below, implies, unless}
use Rattle.model.specs.Levels.{compare, level_dominates, dominates, present, same_label}
use Rattle.model.specs.Modes.{has, add, remove}
use Rattle.model.specs.State.{widest, object, held_by}
use Rattle.model.specs.Profiles.{profile_fits, label_inside, absent_beyond, levels_inside}
use Rattle.model.specs.Hierarchy.{meets, without, parent_live, label_under, labels_rise}
use Rattle.model.specs.Requests.{fields, mode_allowed, unused_zero, parent_within, fields_formed, within, well_formed, request, creation, decode_fields, decode, pack, encode}
use Rattle.model.specs.Companies.{company, compatible, confined}
use Rattle.model.specs.Rules.{simple_all, star_pair, star_from, star_for, star_all, not_lowered, changed, already, checks, answer, step, wall_pair, wall_from, wall_for, wall_all}
use Rattle.model.specs.Runs.{respond, replies}
use Rattle.model.specs.Journal.{ask, asks, acted}
use Rattle.model.specs.Reading.{label_from, label_form, table_from, table_form, table_checks, begin, read_table}
use Rattle.model.specs.Beginnings.{table, left}
use Rattle.model.specs.Program.{pieces, line, lines_after, program}
use Rattle.model.proofs.Tests.{below_out, implies-out, clash}
use Rattle.runs.specs.MarkedRun.{level, table_w}

-- a request of the run and its reply
abbrev Step : Type 0
Step = Request × ℕ

-- subject 1, with (3, 0003), owns the trace, object 0; subject 2 has (0, 0000)
abbrev to : ℕ → ℕ → Request
to class needs = ChangeLevel 1 0 (level class needs)

-- the sixteen requests with their replies
pub steps : List Step
steps =
    (Create 1 0 (creation false 0), 0)
    -- "a first label is free", "and the same label still replies 1"
    ∷ (to 3 0x0001, 0)
    ∷ (to 3 0x0001, 1)
    ∷ (Give 1 2 0 Read, 0)
    ∷ (Get 2 0 Read, 8)
    -- "An owner could take a heat trace from class 3 to class 0 and publish it. Operators no longer allow this."
    ∷ (to 0 0x0000, 14)
    ∷ (Get 2 0 Read, 8)
    -- neither dominates; another's object is 6 as before
    ∷ (to 15 0x0002, 14)
    ∷ (ChangeLevel 2 0 (level 0 0x0000), 6)
    -- raised, read, and neither back nor above its reader
    ∷ (to 3 0x0003, 0)
    ∷ (Get 1 0 Read, 0)
    ∷ (to 3 0x0001, 14)
    ∷ (to 4 0x0003, 8)
    -- a delete ends the label, and the next one in the slot is a first one
    ∷ (Delete 1 0, 0)
    ∷ (Create 1 0 (creation false 0), 0)
    ∷ (to 0 0x0000, 0)
    ∷ []

-- the byte strings of the run
pub bytes : List (List ℕ)
bytes = map (λ (s : Step). encode s.0) steps

pub lowering-run : replies bytes (left (table widest table_w) []) ≡ map (λ (s : Step). s.1) steps
unfolding steps bytes table_w join bits_to_bytes pack table_from table_form label_form label_from table_checks profile_fits absent_beyond levels_inside label_inside begin read_table all_zero bytes_to_bits to_bits odd cut from_bits field decode decode_fields fields well_formed fields_formed within mode_allowed unused_zero request respond step replies acted ask checks already changed star_all star_for star_from star_pair wall_all wall_for wall_from wall_pair compatible confined company implies unless answer simple_all has add remove not_lowered same_label dominates level_dominates compare parent_within parent_live label_under labels_rise meets without
lowering-run = refl

-- "the reply in decimal": the first, second and sixth of them as the program prints them
pub lowering-printed : program (table_w ++ join (map encode (Create 1 0 (creation false 0) ∷ to 3 0x0001 ∷ to 0 0x0000 ∷ [])))
    ≡ 48 ∷ 10 ∷ 48 ∷ 10 ∷ 49 ∷ 52 ∷ 10 ∷ []
unfolding program pieces line lines_after table_w join bits_to_bytes pack table_from table_form label_form label_from table_checks profile_fits absent_beyond levels_inside label_inside begin read_table all_zero bytes_to_bits to_bits odd cut from_bits field decode decode_fields fields well_formed fields_formed within mode_allowed unused_zero request respond step replies acted ask checks already changed star_all star_for star_from star_pair wall_all wall_for wall_from wall_pair compatible confined company implies unless answer simple_all has add remove not_lowered same_label dominates level_dominates compare parent_within parent_live label_under labels_rise meets without
lowering-printed = refl

-- what the theorems over an object that lives on ask for: it is live after 2 to 13 of the requests, labelled after 2, raised after 13, and read
abbrev pub state_after : ℕ → Monitor
state_after k = left (table widest table_w) (map asks (take k bytes))

live-within : all_below 14 (λ k. implies (leb 2 k) (object (state_after k) 0).live) ≡ true
unfolding steps bytes table_w join bits_to_bytes pack table_from table_form label_form label_from table_checks profile_fits absent_beyond levels_inside label_inside begin read_table all_zero bytes_to_bits to_bits odd cut from_bits field decode decode_fields fields well_formed fields_formed within mode_allowed unused_zero request respond step acted ask checks already changed star_all star_for star_from star_pair wall_all wall_for wall_from wall_pair compatible confined company implies unless answer simple_all has add remove not_lowered same_label dominates level_dominates compare parent_within parent_live label_under labels_rise meets without
live-within = refl

pub lives-met : (k : ℕ) → 2 ≤ k → k ≤ 13 → (object (state_after k) 0).live ≡ true
lives-met k a b = implies-out _ _ (below_out 14 (λ k. implies (leb 2 k) (object (state_after k) 0).live) live-within k (omega (arith, b))) (le-leb 2 k a)

pub raised-met : ((object (state_after 2) 0).label ≡ Some (level 3 0x0001)) × ((object (state_after 13) 0).label ≡ Some (level 3 0x0003))
    × (has Read (held_by (object (state_after 13) 0) 1) ≡ true)
unfolding steps bytes table_w join bits_to_bytes pack table_from table_form label_form label_from table_checks profile_fits absent_beyond levels_inside label_inside begin read_table all_zero bytes_to_bits to_bits odd cut from_bits field decode decode_fields fields well_formed fields_formed within mode_allowed unused_zero request respond step acted ask checks already changed star_all star_for star_from star_pair wall_all wall_for wall_from wall_pair compatible confined company implies unless answer simple_all has add remove not_lowered same_label dominates level_dominates compare parent_within parent_live label_under labels_rise meets without
raised-met = (refl, refl, refl)

pub labelled-met : (object (state_after 2) 0).label ≢ None
labelled-met e = clash (ap present (sym raised-met.0 ∙ e))

-- and of the owner's changes of level: the second request asks for a first label, of an object under none, the third for the same one
pub owner-asks-met : (decode (state_after 1).profile (get_or bytes 1 []) ≡ Some (ChangeLevel (object (state_after 1) 0).owner 0 (level 3 0x0001)))
    × (decode (state_after 2).profile (get_or bytes 2 []) ≡ Some (ChangeLevel (object (state_after 2) 0).owner 0 (level 3 0x0001)))
    × ((object (state_after 1) 0).live ≡ true) × ((object (state_after 1) 0).label ≡ None) × ((object (state_after 1) 0).parent ≡ 0)
unfolding steps bytes table_w join bits_to_bytes pack table_from table_form label_form label_from table_checks profile_fits absent_beyond levels_inside label_inside begin read_table all_zero bytes_to_bits to_bits odd cut from_bits field decode decode_fields fields well_formed fields_formed within mode_allowed unused_zero request respond step acted ask checks already changed star_all star_for star_from star_pair wall_all wall_for wall_from wall_pair compatible confined company implies unless answer simple_all has add remove not_lowered same_label dominates level_dominates compare parent_within parent_live label_under labels_rise meets without
owner-asks-met = (refl, refl, refl, refl, refl)
