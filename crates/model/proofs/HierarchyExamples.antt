-- Objects under objects (change request §11), by computation: "A riser contains flats, and a flat contains meters".
-- Assumes nothing.
use Prim.Native.Nat.{ℕ, zero, suc, ◌+◌}
use mathlib.Core.Path.{◌≡◌, refl}
use mathlib.Core.Bool.{true, false}
use mathlib.Core.List.{List, [], ◌∷◌, map}
use lib.ListN.{set}
use Rattle.bits.specs.Bits.{odd, to_bits, from_bits, bytes_to_bits, field}
use Rattle.model.specs.Levels.{Label, compare, level_dominates, dominates}
use Rattle.std.specs.Prelude.{Some, None}
use Rattle.model.specs.declared.Object.{Object}
use Rattle.model.specs.declared.Request.TheVariants.{Create, Delete}
use Rattle.model.specs.Tests.{implies}
use Rattle.model.specs.State.{widest, no_object, with_owner, with_parent, with_label}
use Rattle.model.specs.Profiles.{site}
use Rattle.model.specs.Hierarchy.{meets, ends, below, without, without_below, has_child, parent_live, parents_hold, label_under, labels_rise}
use Rattle.model.specs.Requests.{fields, mode_allowed, unused_zero, parent_within, fields_formed, within, well_formed, request, creation, decode_fields, decode}
use Rattle.model.specs.Rules.{changed, afterwards}

-- an object of subject 0 under another, "number plus one or 0"
abbrev under : ℕ → Object
under p = with_parent (with_owner no_object 0) p

-- the riser is object 0, with the flats 1 and 2; meter 3 is in flat 1, meter 4 in flat 2; object 5 is in nothing, and 6 is not live
abbrev house : List Object
house = under 0 ∷ under 1 ∷ under 1 ∷ under 2 ∷ under 3 ∷ under 0 ∷ no_object ∷ []

-- ---- what is below what

pub below-riser : (map (below house 0) (0 ∷ 1 ∷ 2 ∷ 3 ∷ 4 ∷ 5 ∷ 6 ∷ []) ≡ false ∷ true ∷ true ∷ true ∷ true ∷ false ∷ false ∷ [])
    × (map (below house 1) (0 ∷ 1 ∷ 2 ∷ 3 ∷ 4 ∷ 5 ∷ []) ≡ false ∷ false ∷ false ∷ true ∷ false ∷ false ∷ [])
    × (map (below house 3) (0 ∷ 1 ∷ 2 ∷ 3 ∷ 4 ∷ 5 ∷ []) ≡ false ∷ false ∷ false ∷ false ∷ false ∷ false ∷ [])
    × (map (has_child house) (0 ∷ 1 ∷ 2 ∷ 3 ∷ 4 ∷ 5 ∷ 6 ∷ []) ≡ true ∷ true ∷ true ∷ false ∷ false ∷ false ∷ false ∷ [])
unfolding meets has_child
below-riser = (refl, refl, refl, refl)

-- "Deleting an object deletes everything below it, child by child down to the last": a flat goes with its meter, the riser with all but object 5, a meter alone
abbrev left : ℕ → List Object
left o = (afterwards (Delete 0 o) (record { profile = widest; subjects = []; objects = house })).objects

pub deleted : (left 1 ≡ under 0 ∷ no_object ∷ under 1 ∷ no_object ∷ under 3 ∷ under 0 ∷ no_object ∷ [])
    × (left 0 ≡ no_object ∷ no_object ∷ no_object ∷ no_object ∷ no_object ∷ under 0 ∷ no_object ∷ [])
    × (left 4 ≡ under 0 ∷ under 1 ∷ under 1 ∷ under 2 ∷ no_object ∷ under 0 ∷ no_object ∷ [])
unfolding meets without changed
deleted = (refl, refl, refl)

-- a record that is not live is under nothing, whatever it has there
pub dead-child-stays : without_below 0 (under 0 ∷ with_parent no_object 1 ∷ []) ≡ under 0 ∷ with_parent no_object 1 ∷ []
unfolding meets without
dead-child-stays = refl

-- ---- 19

-- every chain ends, and every parent is live; not where the riser is in meter 4, which closes a circle; where meter 3 is in 6, which is not live;
-- nor where it is in itself; its parent bits are 127, the highest that seven bits hold
pub parents-of-house : (parents_hold house ≡ true)
    × (map (λ (o : ℕ). ends 64 (set house 0 (under 5)) (o + 1)) (0 ∷ 1 ∷ 2 ∷ 3 ∷ 4 ∷ 5 ∷ []) ≡ false ∷ false ∷ false ∷ false ∷ false ∷ true ∷ [])
    × (parents_hold (set house 0 (under 5)) ≡ false)
    × (parents_hold (set house 3 (under 7)) ≡ false)
    × (parents_hold (set house 3 (under 4)) ≡ false)
    × (parents_hold (set house 3 (under 127)) ≡ false)
unfolding parents_hold parent_live ends
parents-of-house = (refl, refl, refl, refl, refl, refl)

-- 64 objects, each in the one before it: the longest chain ends; with the first in the last it does not
abbrev chain_from : ℕ → ℕ → List Object
chain_from zero k = []
chain_from (suc n) k = under k ∷ chain_from n (suc k)

abbrev tower : ℕ → List Object
tower first = under first ∷ chain_from 63 1

pub parents-of-tower : (parents_hold (tower 0) ≡ true) × (parents_hold (tower 64) ≡ false) × (below (tower 0) 0 63 ≡ true) × (below (tower 0) 1 0 ≡ false)
unfolding parents_hold parent_live ends meets
parents-of-tower = (refl, refl, refl, refl)

-- "a parent that isn't live": none is needed, live ones are 0 to 5, then nothing is, also beyond the last object
pub parent_live-house : map (parent_live house) (0 ∷ 1 ∷ 6 ∷ 7 ∷ 64 ∷ 65 ∷ []) ≡ true ∷ true ∷ true ∷ false ∷ false ∷ false ∷ []
unfolding parent_live
parent_live-house = refl

-- ---- 20

abbrev class : ℕ → Label
class c = Some (record { class = c; needs = 0 })

-- a parent with the first label and a child with the second
abbrev family : Label → Label → List Object
family a b = with_label (under 0) a ∷ with_label (under 1) b ∷ []

-- "A labelled child has a labelled parent whose label it dominates": the same, above, below; without a label there, and here
pub labels-of-family : (labels_rise (family (class 1) (class 1)) ≡ true) × (labels_rise (family (class 1) (class 2)) ≡ true) × (labels_rise (family (class 2) (class 1)) ≡ false)
    × (labels_rise (family None (class 0)) ≡ false) × (labels_rise (family (class 3) None) ≡ true) × (labels_rise (family None None) ≡ true)
    × (labels_rise (family (class 1) (Some (record { class = 1; needs = 5 }))) ≡ true)
    × (labels_rise (family (Some (record { class = 1; needs = 1 })) (class 15)) ≡ false)
unfolding labels_rise label_under implies dominates level_dominates compare
labels-of-family = (refl, refl, refl, refl, refl, refl, refl, refl)

-- ---- "Create carries the parent's number plus one in the needs field, 0 for none; above 64, or for an object beyond the profile, it is malformed"

-- subject 5 creates object 2 with 16 times n in the needs field
abbrev asks : ℕ → List ℕ
asks n = 0x52 ∷ 0x80 ∷ 0x10 ∷ 0x00 ∷ n ∷ 0x00 ∷ []

-- 64 and 80; under a profile with three objects and no need in use 0, 3 and 4; 65; and 16 in a delete, which has no parent
pub parents-decoded : (decode widest (asks 4) ≡ Some (Create 5 2 (creation false 64))) × (decode widest (asks 5) ≡ None)
    × (decode (site 16 3 15 0) (0x52 ∷ 0x80 ∷ 0x10 ∷ 0x00 ∷ 0x00 ∷ 0x00 ∷ []) ≡ Some (Create 5 2 (creation false 0)))
    × (decode (site 16 3 15 0) (0x52 ∷ 0x80 ∷ 0x10 ∷ 0x00 ∷ 0x00 ∷ 0x30 ∷ []) ≡ Some (Create 5 2 (creation false 3)))
    × (decode (site 16 3 15 0) (0x52 ∷ 0x80 ∷ 0x10 ∷ 0x00 ∷ 0x00 ∷ 0x40 ∷ []) ≡ None)
    × (decode widest (0x52 ∷ 0x80 ∷ 0x10 ∷ 0x00 ∷ 0x04 ∷ 0x10 ∷ []) ≡ None)
    × (decode widest (0x62 ∷ 0x80 ∷ 0x10 ∷ 0x00 ∷ 0x01 ∷ 0x00 ∷ []) ≡ None)
unfolding decode decode_fields fields field bytes_to_bits to_bits odd from_bits well_formed fields_formed within mode_allowed unused_zero parent_within implies request
parents-decoded = (refl, refl, refl, refl, refl, refl, refl)
