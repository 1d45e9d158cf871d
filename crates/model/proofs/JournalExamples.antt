-- The journal and taking back (change request §9), from its words: how many entries there are and which give way, and a run of three requests on
-- object 1, computed.
-- Assumes nothing.
use Prim.Native.Nat.{ℕ, suc, ◌<◌, min}
use mathlib.Core.Path.{◌≡◌, refl}
use mathlib.Core.Bool.{false}
use mathlib.Core.List.{List, [], ◌∷◌}
use lib.ListN.{length, get_or, replicate, length-take}
use lib.Seq.{get_or-take}
use Rattle.bits.specs.Bits.{odd, to_bits, from_bits, bytes_to_bits, field}
use Rattle.std.specs.Prelude.{Some}
use Rattle.model.specs.declared.Object.{Object}
use Rattle.model.specs.Tests.{implies, unless}
use Rattle.model.specs.Levels.{compare, level_dominates, dominates, same_label}
use Rattle.model.specs.Modes.{has}
use Rattle.model.specs.Companies.{company, compatible, confined}
use Rattle.model.specs.State.{nobody, no_object, fresh, widest, object, with_label}
use Rattle.model.specs.Requests.{fields, mode_allowed, unused_zero, parent_within, fields_formed, within, well_formed, request, creation, decode_fields, decode}
use Rattle.model.specs.Hierarchy.{meets, without, has_child, parent_live, label_under, labels_rise}
use Rattle.model.specs.Rules.{created, changed, already, simple_all, star_pair, star_from, star_for, star_all, not_lowered, checks, answer, step, wall_pair, wall_from, wall_for}
use Rattle.model.specs.Runs.{respond}
use Rattle.model.specs.Journal.{Entry, Journaled, entered, without_entries, ask, restored, take_back, taking_back, Act, asks, takes_back, acted, answers}

-- ---- "A journal of up to 32 entries", "the oldest entry gives way"

-- one entry more, up to 32
pub entered-length : (e : Entry) (l : List Entry) → length (entered e l) ≡ min 32 (suc (length l))
unfolding entered without meets has_child
entered-length e l = length-take 32 (e ∷ l)

-- the new one is the latest, and the 31 latest of before stand behind it in their order
pub entered-latest : (e d : Entry) (l : List Entry) → get_or (entered e l) 0 d ≡ e
unfolding entered without meets has_child
entered-latest e d l = refl

pub entered-earlier : (e d : Entry) (l : List Entry) (i : ℕ) → i < 31 → get_or (entered e l) (suc i) d ≡ get_or l i d
unfolding entered without meets has_child
entered-earlier e d l i h = get_or-take 31 l i d h

-- ---- a run: subject 1, with (3, 0003), creates object 1, labels it (0, 0000), and deletes it

abbrev begun : Journaled
begun = without_entries (fresh widest (nobody ∷ record { clearance = Some (record { class = 3; needs = 3 }) } ∷ replicate 14 nobody))

abbrev create : Act
create = asks (0x50 ∷ 0x80 ∷ 0x08 ∷ 0 ∷ 0 ∷ 0 ∷ [])

abbrev label : Act
label = asks (0x70 ∷ 0x80 ∷ 0x08 ∷ 0 ∷ 0 ∷ 0 ∷ [])

abbrev delete : Act
delete = asks (0x60 ∷ 0x80 ∷ 0x08 ∷ 0 ∷ 0 ∷ 0 ∷ [])

-- the record after the first, and after the second
abbrev new : Object
new = created 1 (creation false 0)

abbrev labelled : Object
labelled = with_label new (Some (record { class = 0; needs = 0 }))

abbrev about : Object → Entry
about ob = record { place = 1; was = ob }

abbrev entries : List Act → List Entry
entries l = (acted l begun).journal

-- each reply 0 enters the record as it was, the latest first; 5, 1 and 2 enter nothing
pub what-is-entered : (answers (create ∷ create ∷ label ∷ label ∷ asks [] ∷ delete ∷ []) begun ≡ 0 ∷ 5 ∷ 0 ∷ 1 ∷ 2 ∷ 0 ∷ [])
    × (entries (create ∷ create ∷ []) ≡ about no_object ∷ [])
    × (entries (create ∷ create ∷ label ∷ label ∷ asks [] ∷ []) ≡ about new ∷ about no_object ∷ [])
    × (entries (create ∷ label ∷ delete ∷ []) ≡ about labelled ∷ about new ∷ about no_object ∷ [])
unfolding acted answers ask entered bytes_to_bits to_bits odd from_bits field decode decode_fields fields well_formed fields_formed within mode_allowed unused_zero parent_within request respond step checks already changed star_all star_for star_from star_pair wall_for wall_from wall_pair compatible confined company implies unless answer simple_all not_lowered has same_label dominates level_dominates compare labels_rise label_under parent_live without meets has_child
what-is-entered = (refl, refl, refl, refl)

-- object 1 after the three requests and n takings-back
abbrev afterwards : List Act → Object
afterwards l = object (acted (create ∷ label ∷ delete ∷ l) begun).monitor 1

-- "restores exactly the state before the latest request still in the journal, whose entry then goes": the deleted object with its label, then without it,
-- then none; a fourth one is refused, "state unchanged"
pub taken-back-in-turn : (afterwards [] ≡ no_object)
    × (afterwards (takes_back ∷ []) ≡ labelled)
    × (afterwards (takes_back ∷ takes_back ∷ []) ≡ new)
    × (afterwards (takes_back ∷ takes_back ∷ takes_back ∷ []) ≡ no_object)
    × (afterwards (takes_back ∷ takes_back ∷ takes_back ∷ takes_back ∷ []) ≡ no_object)
    × (answers (takes_back ∷ takes_back ∷ takes_back ∷ takes_back ∷ []) (acted (create ∷ label ∷ delete ∷ []) begun) ≡ 0 ∷ 0 ∷ 0 ∷ 17 ∷ [])
unfolding acted answers ask entered take_back taking_back restored bytes_to_bits to_bits odd from_bits field decode decode_fields fields well_formed fields_formed within mode_allowed unused_zero parent_within request respond step checks already changed star_all star_for star_from star_pair wall_for wall_from wall_pair compatible confined company implies unless answer simple_all not_lowered has same_label dominates level_dominates compare labels_rise label_under parent_live without meets has_child
taken-back-in-turn = (refl, refl, refl, refl, refl, refl)

-- a taking-back enters nothing, so it is not taken back itself: what is asked after it is
pub no-entry-of-its-own : (entries (create ∷ label ∷ takes_back ∷ []) ≡ about no_object ∷ [])
    × (entries (create ∷ label ∷ takes_back ∷ delete ∷ []) ≡ about new ∷ about no_object ∷ [])
unfolding acted answers ask entered take_back restored bytes_to_bits to_bits odd from_bits field decode decode_fields fields well_formed fields_formed within mode_allowed unused_zero parent_within request respond step checks already changed star_all star_for star_from star_pair wall_for wall_from wall_pair compatible confined company implies unless answer simple_all not_lowered has same_label dominates level_dominates compare labels_rise label_under parent_live without meets has_child
no-entry-of-its-own = (refl, refl)
