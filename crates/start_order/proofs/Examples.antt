-- Computed from bytes: the answers for lists of gets on a state of two subjects and two objects.
-- Assumes nothing.
use Prim.Native.Nat.{ℕ}
use mathlib.Core.Path.{◌≡◌, refl}
use mathlib.Core.List.{List, [], ◌∷◌, ◌++◌}
use lib.ListN.{replicate}
use Rattle.bits.specs.Bits.{cut, odd, to_bits, from_bits, bytes_to_bits, field}
use Rattle.model.specs.declared.Subject.{Subject}
use Rattle.model.specs.declared.Monitor.{Monitor}
use Rattle.std.specs.Prelude.{Some}
use Rattle.model.specs.Tests.{implies, unless}
use Rattle.model.specs.Levels.{compare, level_dominates, dominates, same_label}
use Rattle.model.specs.Modes.{has, add, remove}
use Rattle.model.specs.State.{widest, nobody, fresh}
use Rattle.model.specs.ModePairs.{kept}
use Rattle.model.specs.Requests.{fields, mode_allowed, unused_zero, parent_within, fields_formed, within, well_formed, request, decode_fields, decode}
use Rattle.model.specs.Companies.{company, compatible, confined, wall_kept}
use Rattle.model.specs.Hierarchy.{parent_live, label_under, labels_rise}
use Rattle.model.specs.Rules.{simple_all, star_pair, star_from, star_for, star_all, not_lowered, changed, already, checks, answer, step, wall_pair, wall_from, wall_for, wall_all}
use Rattle.model.specs.Runs.{respond, after}
use Rattle.model.specs.Program.{pieces}
use Rattle.start_order.specs.declared.StartOrder.TheVariants.{Agree, Clash, NoGet}
use Rattle.start_order.specs.First.{first_below}
use Rattle.start_order.specs.Answers.{wanted, alone, breaks, clashes, first_clash, start_order}

-- six bytes of which the last three are 0
abbrev pub bytes : ℕ → ℕ → ℕ → List ℕ
bytes a b c = a ∷ b ∷ c ∷ 0 ∷ 0 ∷ 0 ∷ []

abbrev pub cleared : Subject
cleared = record { clearance = Some (record { class = 3; needs = 3 }) }

-- s1 creates o0 and labels it (0, 0000), creates o1 with e and labels it (2, 0001), and gives s2 a on o0 and r on o1
unfoldable pub made : List (List ℕ)
made =
    bytes 0x50 0x80 0x00
    ∷ bytes 0x70 0x80 0x00
    ∷ bytes 0x50 0x80 0x0C
    ∷ (0x70 ∷ 0x80 ∷ 0x08 ∷ 0x20 ∷ 0x00 ∷ 0x10 ∷ [])
    ∷ bytes 0x30 0x88 0x03
    ∷ bytes 0x30 0x88 0x09
    ∷ []

unfoldable pub labelled : Monitor
labelled = after made (fresh widest (nobody ∷ cleared ∷ cleared ∷ replicate 13 nobody))

-- s1 gets r on o1
unfoldable pub read-1 : List ℕ
read-1 = bytes 0x10 0x80 0x09

-- s1 gets a on o0
unfoldable pub append-0 : List ℕ
append-0 = bytes 0x10 0x80 0x03

-- s1 gets w on o0
unfoldable pub write-0 : List ℕ
write-0 = bytes 0x10 0x80 0x02

-- s1 gets w on o1
unfoldable pub write-1 : List ℕ
write-1 = bytes 0x10 0x80 0x0A

-- s1 gets r on o0
unfoldable pub read-0 : List ℕ
read-0 = bytes 0x10 0x80 0x01

-- s1 gets a on o1
unfoldable pub append-1 : List ℕ
append-1 = bytes 0x10 0x80 0x0B

-- s1 gets e on o1
unfoldable pub execute-1 : List ℕ
execute-1 = bytes 0x10 0x80 0x0C

-- s2 gets a on o0
unfoldable pub other-append-0 : List ℕ
other-append-0 = bytes 0x11 0x00 0x03

-- s2 gets r on o1
unfoldable pub other-read-1 : List ℕ
other-read-1 = bytes 0x11 0x00 0x09

-- which two clash: r on the higher label and a on the lower one, the same get twice among them; w and w; in both orders; the least first place,
-- and not the least second
pub clashing : (start_order (read-1 ∷ read-1 ∷ append-0 ∷ []) labelled ≡ Clash 0 2)
    × (start_order (append-0 ∷ read-0 ∷ read-1 ∷ append-0 ∷ []) labelled ≡ Clash 0 2)
    × (start_order (read-0 ∷ read-1 ∷ append-0 ∷ append-0 ∷ []) labelled ≡ Clash 1 2)
    × (start_order (write-0 ∷ write-1 ∷ []) labelled ≡ Clash 0 1)
    × (start_order (other-read-1 ∷ read-1 ∷ append-0 ∷ other-append-0 ∷ []) labelled ≡ Clash 0 3)
unfolding other-read-1 made labelled read-1 append-0 write-0 write-1 read-0 append-1 execute-1 other-append-0 first_below wanted alone breaks clashes first_clash start_order kept wall_kept bytes_to_bits to_bits odd from_bits field decode decode_fields fields well_formed fields_formed within mode_allowed unused_zero request respond step after checks already changed star_all star_for star_from star_pair wall_all wall_for wall_from wall_pair compatible confined company implies unless answer simple_all not_lowered has add remove same_label dominates level_dominates compare parent_within parent_live label_under labels_rise
clashing = (refl, refl, refl, refl, refl)

-- which do not: the same get twice; r on the lower label and a on the higher one; e; two subjects; none
pub agreeing : (start_order (read-1 ∷ read-1 ∷ []) labelled ≡ Agree)
    × (start_order (read-0 ∷ append-1 ∷ []) labelled ≡ Agree)
    × (start_order (execute-1 ∷ append-0 ∷ []) labelled ≡ Agree)
    × (start_order (read-1 ∷ other-append-0 ∷ []) labelled ≡ Agree)
    × (start_order [] labelled ≡ Agree)
unfolding other-read-1 made labelled read-1 append-0 write-0 write-1 read-0 append-1 execute-1 other-append-0 first_below wanted alone breaks clashes first_clash start_order kept wall_kept bytes_to_bits to_bits odd from_bits field decode decode_fields fields well_formed fields_formed within mode_allowed unused_zero request respond step after checks already changed star_all star_for star_from star_pair wall_all wall_for wall_from wall_pair compatible confined company implies unless answer simple_all not_lowered has add remove same_label dominates level_dominates compare parent_within parent_live label_under labels_rise
agreeing = (refl, refl, refl, refl, refl)

-- where r on o1 is held, a on o0 is refused alone, and clashes with none
pub held-already : (start_order (append-0 ∷ read-1 ∷ []) (after (read-1 ∷ []) labelled) ≡ Agree)
    × (start_order (read-1 ∷ append-0 ∷ []) (after (read-1 ∷ []) labelled) ≡ Agree)
unfolding other-read-1 made labelled read-1 append-0 write-0 write-1 read-0 append-1 execute-1 other-append-0 first_below wanted alone breaks clashes first_clash start_order kept wall_kept bytes_to_bits to_bits odd from_bits field decode decode_fields fields well_formed fields_formed within mode_allowed unused_zero request respond step after checks already changed star_all star_for star_from star_pair wall_all wall_for wall_from wall_pair compatible confined company implies unless answer simple_all not_lowered has add remove same_label dominates level_dominates compare parent_within parent_live label_under labels_rise
held-already = (refl, refl)

-- what is no get: s1 releases r on o1; a short piece; six bytes 0
pub no-gets : (start_order (read-1 ∷ append-0 ∷ bytes 0x20 0x80 0x09 ∷ []) labelled ≡ NoGet 2)
    × (start_order (read-1 ∷ (0x10 ∷ []) ∷ append-0 ∷ []) labelled ≡ NoGet 1)
    × (start_order (bytes 0 0 0 ∷ []) labelled ≡ NoGet 0)
unfolding other-read-1 made labelled read-1 append-0 write-0 write-1 read-0 append-1 execute-1 other-append-0 first_below wanted alone breaks clashes first_clash start_order kept wall_kept bytes_to_bits to_bits odd from_bits field decode decode_fields fields well_formed fields_formed within mode_allowed unused_zero request respond step after checks already changed star_all star_for star_from star_pair wall_all wall_for wall_from wall_pair compatible confined company implies unless answer simple_all not_lowered has add remove same_label dominates level_dominates compare parent_within parent_live label_under labels_rise
no-gets = (refl, refl, refl)

-- thirteen bytes, cut into pieces: the last one is short, and no get
pub short-last : start_order (pieces (read-1 ++ (append-0 ++ (0x10 ∷ [])))) labelled ≡ NoGet 2
unfolding pieces cut other-read-1 made labelled read-1 append-0 write-0 write-1 read-0 append-1 execute-1 other-append-0 first_below wanted alone breaks clashes first_clash start_order kept wall_kept bytes_to_bits to_bits odd from_bits field decode decode_fields fields well_formed fields_formed within mode_allowed unused_zero request respond step after checks already changed star_all star_for star_from star_pair wall_all wall_for wall_from wall_pair compatible confined company implies unless answer simple_all not_lowered has add remove same_label dominates level_dominates compare parent_within parent_live label_under labels_rise
short-last = refl

-- o0 is of company 1 and o1 of company 2 of the first conflict class (change request §10)
unfoldable pub marked : Monitor
marked = after ((0x80 ∷ 0x80 ∷ 0x00 ∷ 0x01 ∷ 0x00 ∷ 0x00 ∷ []) ∷ (0x80 ∷ 0x80 ∷ 0x08 ∷ 0x02 ∷ 0x00 ∷ 0x00 ∷ []) ∷ []) labelled

-- "star or wall": two gets of one subject that break the wall alone, e among them; of two subjects none
pub clashing-by-wall : (start_order (read-0 ∷ read-1 ∷ []) marked ≡ Clash 0 1)
    × (start_order (read-0 ∷ read-0 ∷ execute-1 ∷ []) marked ≡ Clash 0 2)
    × (start_order (read-0 ∷ other-read-1 ∷ []) marked ≡ Agree)
    × (start_order (read-0 ∷ read-1 ∷ []) labelled ≡ Agree)
unfolding marked other-read-1 made labelled read-1 append-0 write-0 write-1 read-0 append-1 execute-1 other-append-0 first_below wanted alone breaks clashes first_clash start_order kept wall_kept bytes_to_bits to_bits odd from_bits field decode decode_fields fields well_formed fields_formed within mode_allowed unused_zero request respond step after checks already changed star_all star_for star_from star_pair wall_all wall_for wall_from wall_pair compatible confined company implies unless answer simple_all not_lowered has add remove same_label dominates level_dominates compare parent_within parent_live label_under labels_rise
clashing-by-wall = (refl, refl, refl, refl)
