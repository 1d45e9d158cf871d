-- Computed from bytes: gives and releases after table W, copies among them, and a list with a rescind, of which the order matters.
-- Assumes nothing.
use Prim.Native.Nat.{ℕ}
use native.Mathlib.Omega.{arith}
use mathlib.Core.Path.{◌≡◌, refl, sym, ap, ◌∙◌}
use mathlib.Core.Bool.{Bool, true, false}
use mathlib.Core.List.Permᴰ
use mathlib.Core.List.{List, [], ◌∷◌}
use lib.ListN.{get_or}
use Rattle.bits.specs.Bits.{odd, to_bits, from_bits, bytes_to_bits, field, cut, all_zero}
use Rattle.model.specs.declared.Monitor.{Monitor}
use Rattle.model.specs.declared.Mode.{Mode}
use Rattle.model.specs.declared.Mode.TheVariants.{Read, Write, Execute}
use Rattle.model.specs.declared.Request.TheVariants.{Get, Release, Give, Rescind}
use Rattle.std.specs.Prelude.{Some}
use Rattle.model.specs.Tests.{implies, unless}
use Rattle.model.specs.Levels.{compare, level_dominates, dominates, same_label}
use Rattle.model.specs.Modes.{has, add, remove}
use Rattle.model.specs.State.{widest, object, rights_of}
use Rattle.model.specs.Properties.{Holds}
use Rattle.model.specs.Profiles.{profile_fits, label_inside, absent_beyond, levels_inside}
use Rattle.model.specs.Hierarchy.{meets, without, parent_live, label_under, labels_rise}
use Rattle.model.specs.Requests.{fields, mode_allowed, unused_zero, parent_within, fields_formed, within, well_formed, request, decode_fields, decode}
use Rattle.model.specs.Companies.{company, compatible, confined}
use Rattle.model.specs.Rules.{simple_all, star_pair, star_from, star_for, star_all, not_lowered, changed, already, checks, answer, step, wall_pair, wall_from, wall_for, wall_all}
use Rattle.model.specs.Runs.{respond, after, replies}
use Rattle.model.specs.Journal.{ask, acted}
use Rattle.model.specs.Reading.{label_from, label_form, table_from, table_form, table_checks, begin, read_table}
use Rattle.model.specs.Beginnings.{Reached}
use Rattle.model.proofs.Tests.{clash, apart}
use Rattle.images.proofs.Reached.{reached-after}
use Rattle.orders.specs.Orders.{Each}
use Rattle.request_orders.specs.AnyOrder.{OrdersAgree, GrantedAt}
use Rattle.request_orders.specs.RightsLists.{IsGive, IsRelease, NothingElse}
use Rattle.request_orders.proofs.RightsLists.{two-kinds}
use Rattle.runs.specs.MarkedRun.{table_w}
use Rattle.start_order.proofs.Examples.{bytes, made, read-1}
use Rattle.capi.proofs.StartOrders.{there, reached-there}

-- s1, who owns o0 and made it without e, gives s2 w
unfoldable pub give-w : List ℕ
give-w = bytes 0x30 0x88 0x02

-- gives s2 e, which it has not itself, and gives itself e
unfoldable pub give-e : List ℕ
give-e = bytes 0x30 0x88 0x04

unfoldable pub give-e-itself : List ℕ
give-e-itself = bytes 0x30 0x84 0x04

-- s2, who is not the owner, gives s0 the right a that it has
unfoldable pub give-a-on : List ℕ
give-a-on = bytes 0x31 0x00 0x03

-- s1 rescinds w from s2
unfoldable pub rescind-w : List ℕ
rescind-w = bytes 0x40 0x88 0x02

-- s1 releases r on o1
unfoldable pub release-r : List ℕ
release-r = bytes 0x20 0x80 0x09

-- a list of gives with a copy and with one that is refused
abbrev listed : List (List ℕ)
listed = give-w ∷ give-e ∷ give-w ∷ []

-- whether s2 has a right at o0
abbrev right : Mode → Monitor → Bool
right x m = has x (rights_of (object m 0) 2)

-- a copy of a give, or of a release, is granted too, with 1 where the first one says 0; a right that the owner has not itself is not given,
-- whichever comes first, and who is not the owner gives nothing; malformed bytes get 2. The right of a give that is granted is there in the end, and
-- that of one that is refused is not. Of a give and a rescind the last one decides.
pub computed : (replies listed there ≡ 0 ∷ 6 ∷ 1 ∷ [])
    × (replies (give-e ∷ give-e-itself ∷ give-a-on ∷ []) there ≡ 6 ∷ 6 ∷ 6 ∷ [])
    × (replies (give-e-itself ∷ give-a-on ∷ give-e ∷ []) there ≡ 6 ∷ 6 ∷ 6 ∷ [])
    × (replies (read-1 ∷ release-r ∷ release-r ∷ [] ∷ []) there ≡ 0 ∷ 0 ∷ 1 ∷ 2 ∷ [])
    × (right Write (after listed there) ≡ true)
    × (right Execute (after listed there) ≡ false)
    × (right Write (after (give-w ∷ rescind-w ∷ []) there) ≡ false)
    × (right Write (after (rescind-w ∷ give-w ∷ []) there) ≡ true)
    × Holds (after (read-1 ∷ []) there) 1 1 Read
unfolding there give-w rescind-w give-e give-e-itself give-a-on release-r replies table_w table_from table_form label_form label_from table_checks profile_fits absent_beyond levels_inside label_inside begin read_table all_zero cut made read-1 bytes_to_bits to_bits odd from_bits field decode decode_fields fields well_formed fields_formed within mode_allowed unused_zero request respond step after acted ask checks already changed star_all star_for star_from star_pair wall_all wall_for wall_from wall_pair compatible confined company implies unless answer simple_all not_lowered has add remove same_label dominates level_dominates compare parent_within parent_live label_under labels_rise meets without
computed = (refl, refl, refl, refl, refl, refl, refl, refl, refl)

-- what the bytes say
says : (decode widest give-w ≡ Some (Give 1 2 0 Write)) × (decode widest give-e ≡ Some (Give 1 2 0 Execute)) × (decode widest rescind-w ≡ Some (Rescind 1 2 0 Write))
    × (decode widest release-r ≡ Some (Release 1 1 Read)) × (decode widest read-1 ≡ Some (Get 1 1 Read))
unfolding give-w give-e rescind-w release-r read-1 bytes_to_bits to_bits odd from_bits field decode decode_fields fields well_formed fields_formed within mode_allowed unused_zero request parent_within implies
says = (refl, refl, refl, refl, refl)

-- on a state that a run reaches
pub gives-met : Reached there × Each (IsGive widest) listed
gives-met = (reached-there, ((2, 0, Write, (1, says.0)), ((2, 0, Execute, (1, says.1)), ((2, 0, Write, (1, says.0)), tt))))

-- both copies are granted and the other is not
pub gives-granted : GrantedAt listed there 0 × (GrantedAt listed there 1 → ⊥) × GrantedAt listed there 2
gives-granted = (omega (arith, at 0), λ h. omega (arith, at 1, h), omega (arith, at 2))
  where
    at : (i : ℕ) → get_or (replies listed there) i 2 ≡ get_or (0 ∷ 6 ∷ 1 ∷ []) i 2
    at i = ap (λ (l : List ℕ). get_or l i 2) computed.0

-- a list of releases, of an access that is held
pub releases-met : Reached (after (read-1 ∷ []) there) × Holds (after (read-1 ∷ []) there) 1 1 Read × Each (IsRelease widest) (release-r ∷ release-r ∷ [])
releases-met = (reached-after there reached-there (read-1 ∷ []), computed.8, ((1, 1, Read, says.3), ((1, 1, Read, says.3), tt)))

-- a rescind and a get stand in no such list
pub kinds-apart : (NothingElse widest rescind-w → ⊥) × (NothingElse widest read-1 → ⊥)
kinds-apart = (λ w. clash (sym (two-kinds _ (w _ says.2))), λ w. clash (sym (two-kinds _ (w _ says.4))))

-- with a rescind among them the order matters
pub rescinds-differ : OrdersAgree (give-w ∷ rescind-w ∷ []) there → ⊥
rescinds-differ agree =
    let same = agree (give-w ∷ rescind-w ∷ []) (rescind-w ∷ give-w ∷ []) (Permᴰ.refl _) (Permᴰ.swap refl refl) in
    apart computed.7 (sym (ap (right Write) same) ∙ computed.6)
