-- What `circmon_clash` returns, and what it says of a unit that was started or opened and asked and taken back in any order.
-- Assumes nothing.
use Prim.Native.Nat.{ℕ, ◌+◌, ◌*◌, ◌/◌, ◌%◌, ◌^◌, ◌<◌}
use native.Mathlib.Nat.{mod-eq_of_lt}
use native.Mathlib.Omega.{arith}
use mathlib.Core.Path.{◌≡◌, refl, sym, ap, ap₂, ◌∙◌}
use mathlib.Core.Logic.{◌↔◌}
use mathlib.Core.List.{List, [], ◌∷◌, map}
use Rattle.bits.specs.Bits.{odd, to_bits, from_bits, bytes_to_bits, field, cut, all_zero}
use Rattle.model.specs.State.{widest}
use Rattle.model.specs.declared.Monitor.{Monitor}
use Rattle.model.specs.Tests.{implies, unless}
use Rattle.model.specs.Levels.{compare, level_dominates, dominates, same_label}
use Rattle.model.specs.Modes.{has, add, remove}
use Rattle.model.specs.ModePairs.{kept}
use Rattle.model.specs.Profiles.{profile_fits, label_inside, absent_beyond, levels_inside}
use Rattle.model.specs.Hierarchy.{meets, without, parent_live, label_under, labels_rise}
use Rattle.model.specs.Requests.{fields, mode_allowed, unused_zero, parent_within, fields_formed, within, well_formed, request, decode_fields, decode}
use Rattle.model.specs.Companies.{company, compatible, confined, wall_kept}
use Rattle.model.specs.Rules.{simple_all, star_pair, star_from, star_for, star_all, not_lowered, changed, already, checks, answer, step, wall_pair, wall_from, wall_for, wall_all}
use Rattle.model.specs.Runs.{respond}
use Rattle.model.specs.Journal.{ask, Act, asks, acted}
use Rattle.model.specs.Reading.{label_from, label_form, table_from, table_form, table_checks, begin, read_table}
use Rattle.model.specs.Program.{pieces}
use Rattle.model.specs.Beginnings.{Beginning, table, Accepted, left, Reached}
use Rattle.images.proofs.Reached.{reached-left}
use Rattle.request_orders.specs.AnyOrder.{OrdersAgree}
use Rattle.request_orders.proofs.StartOrder.{gets-agree-exactly}
use Rattle.runs.specs.MarkedRun.{table_w}
use Rattle.runs.proofs.Witnesses.{table-met}
use Rattle.unit.specs.Rows.{Rows, state_in}
use Rattle.start_order.specs.declared.StartOrder.{StartOrder}
use Rattle.start_order.specs.declared.StartOrder.TheVariants.{Agree, Clash, NoGet, TooMany}
use Rattle.start_order.specs.First.{first_below}
use Rattle.start_order.specs.Answers.{wanted, alone, breaks, clashes, first_clash, start_order}
use Rattle.start_order.specs.Meaning.{FirstClash, Means, PlacesFit}
use Rattle.start_order.proofs.Meaning.{answer-exactly}
use Rattle.start_order.proofs.AnyMonitor.{places-fit}
use Rattle.start_order.proofs.Examples.{made, read-1, append-0}
use Rattle.numbers.specs.Orders.{order_number, by_code, answer_in}
use Rattle.capi.specs.UnitRuns.{unit_after}
use Rattle.capi.proofs.UnitRuns.{after-says}

-- ---- the number

-- a code and two places, each of 24 bits, read off their number
read_number : (code i j : ℕ) → code < 4 → i < 2 ^ 24 → j < 2 ^ 24 → answer_in (code + 256 * i + 2 ^ 32 * j) ≡ by_code code i j
unfolding answer_in
read_number code i j c h k =
    let low : (code + 256 * i + 2 ^ 32 * j) % 256 ≡ code = omega arith in
    let above : (code + 256 * i + 2 ^ 32 * j) / 256 ≡ i + 2 ^ 24 * j = omega arith in
    let cut : (i + 2 ^ 24 * j) % 2 ^ 24 ≡ i = omega arith in
    let first : (code + 256 * i + 2 ^ 32 * j) / 256 % 2 ^ 24 ≡ i = ap (λ (n : ℕ). n % 2 ^ 24) above ∙ cut in
    let rest : (code + 256 * i + 2 ^ 32 * j) / 2 ^ 32 ≡ j = omega arith in
    let second : (code + 256 * i + 2 ^ 32 * j) / 2 ^ 32 % 2 ^ 24 ≡ j = ap (λ (n : ℕ). n % 2 ^ 24) rest ∙ mod-eq_of_lt k in
    ap (λ (a : ℕ). by_code a ((code + 256 * i + 2 ^ 32 * j) / 256 % 2 ^ 24) ((code + 256 * i + 2 ^ 32 * j) / 2 ^ 32 % 2 ^ 24)) low ∙ ap₂ (by_code code) first second

read-parts : (n code i j : ℕ) → n ≡ code + 256 * i + 2 ^ 32 * j → code < 4 → i < 2 ^ 24 → j < 2 ^ 24 → answer_in n ≡ by_code code i j
read-parts n code i j e c h k = ap answer_in e ∙ read_number code i j c h k

-- computed: each code, two places and one
pub each-order-number : (order_number Agree ≡ 0) × (order_number (Clash 1 2) ≡ 0x200000101) × (order_number (NoGet 4095) ≡ 0xFFF02) × (order_number TooMany ≡ 3)
unfolding order_number
each-order-number = (refl, refl, refl, refl)

-- no code but 0 to 3
pub code-below-4 : (r : StartOrder) → order_number r % 256 < 4
unfolding order_number
code-below-4 Agree = omega arith
code-below-4 (Clash i j) = omega arith
code-below-4 (NoGet i) = omega arith
code-below-4 TooMany = omega arith

-- the answer is read off its number, and the number fits in 64 bits
pub number_read : (r : StartOrder) → PlacesFit r → (answer_in (order_number r) ≡ r) × (order_number r < 2 ^ 64)
unfolding order_number
number_read Agree f = (read-parts 0 0 0 0 (omega arith) (omega arith) (omega arith) (omega arith), omega arith)
number_read (Clash i j) f = (
  read-parts (order_number (Clash i j)) 1 i j (omega (arith, f.0, f.1)) (omega arith) (omega (arith, f.0, f.1)) (omega (arith, f.1)),
  omega (arith, f.0, f.1),
)
number_read (NoGet i) f = (read-parts (order_number (NoGet i)) 2 i 0 (omega (arith, f)) (omega arith) (omega (arith, f)) (omega arith), omega (arith, f))
number_read TooMany f = (read-parts 3 3 0 0 (omega arith) (omega arith) (omega arith) (omega arith), omega arith)

-- ---- what `circmon_clash` returns

-- for every content of a unit and every buffer: the answer, read off
pub clash-returns : (u : Rows) (requests : List ℕ) → answer_in (order_number (start_order (pieces requests) (state_in u))) ≡ start_order (pieces requests) (state_in u)
clash-returns u requests = (number_read (start_order (pieces requests) (state_in u)) (places-fit (state_in u) (pieces requests))).0

-- of a unit that was started or opened with 0 and asked any list: an answer is returned exactly where what it says of the pieces, of the state
-- after the list and of all orders is so
pub unit-orders : (b : Beginning) → Accepted b → (qs : List Act) (requests : List ℕ) (r : StartOrder)
    → (answer_in (order_number (start_order (pieces requests) (state_in (unit_after b qs)))) ≡ r) ↔ Means (left b qs) (pieces requests) r
unit-orders b e qs requests r =
    let said = clash-returns (unit_after b qs) requests ∙ ap (start_order (pieces requests)) (after-says b qs) in
    let exactly = answer-exactly (left b qs) (reached-left b e qs) (pieces requests) r in
    (λ h. exactly.0 (sym said ∙ h), λ h. said ∙ exactly.1 h)

-- ---- the hypotheses are met, and both answers on orders occur

-- from table W, subject 1 makes and labels two objects
unfoldable pub there : Monitor
there = left (table widest table_w) (map asks made)

pub reached-there : Reached there
unfolding there
reached-there = reached-left (table widest table_w) table-met (map asks made)

answers-there : (start_order (read-1 ∷ read-1 ∷ append-0 ∷ []) there ≡ Clash 0 2) × (start_order (read-1 ∷ read-1 ∷ []) there ≡ Agree)
unfolding there table_w table_from table_form label_form label_from table_checks profile_fits absent_beyond levels_inside label_inside begin read_table all_zero cut made read-1 append-0 first_below wanted alone breaks clashes first_clash start_order kept wall_kept bytes_to_bits to_bits odd from_bits field decode decode_fields fields well_formed fields_formed within mode_allowed unused_zero request respond step acted ask checks already changed star_all star_for star_from star_pair wall_all wall_for wall_from wall_pair compatible confined company implies unless answer simple_all not_lowered has add remove same_label dominates level_dominates compare parent_within parent_live label_under labels_rise meets without
answers-there = (refl, refl)

-- the order of these three gets matters: those at 0 and 2 clash, and not all orders leave equal states
pub order-matters : FirstClash there (read-1 ∷ read-1 ∷ append-0 ∷ []) 0 2 × (OrdersAgree (read-1 ∷ read-1 ∷ append-0 ∷ []) there → ⊥)
order-matters =
    let says = (answer-exactly there reached-there (read-1 ∷ read-1 ∷ append-0 ∷ []) (Clash 0 2)).0 answers-there.0 in
    (says.2, λ agree. (gets-agree-exactly there reached-there _ says.1).0 agree 0 2 says.2.ordered says.2.within says.2.clash)

-- and that of the same get twice does not
pub order-does-not : OrdersAgree (read-1 ∷ read-1 ∷ []) there
order-does-not = ((answer-exactly there reached-there (read-1 ∷ read-1 ∷ []) Agree).0 answers-there.1).2
