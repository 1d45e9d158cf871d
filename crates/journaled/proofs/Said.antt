-- For every content of a unit: the monitor and the journal that it says after a request, after a taking-back and after lists of them are those of the
-- definitions, and so are the numbers returned.
-- Assumes nothing.
use Prim.Native.Nat.{ℕ, zero, suc, ◌+◌, ◌%◌, ◌<◌}
use native.Mathlib.Omega.{arith}
use mathlib.Core.Path.{◌≡◌, refl, sym, ap, ap₂, ◌∙◌, subst}
use mathlib.Core.Logic.{◌≢◌}
use mathlib.Core.List.{List, [], ◌∷◌, ◌++◌}
use mathlib.Core.Bool.{cond}
use lib.ListN.{length, length-append}
use lib.Dec.{eqb}
use borrow.Author.Tests.{eq-eqb, ne_eqb}
use Rattle.model.specs.declared.Object.{Object}
use Rattle.model.specs.declared.Monitor.{Monitor}
use Rattle.model.specs.declared.Request.{Request}
use Rattle.model.specs.Requests.{Decoded, decode, InRange}
use Rattle.std.specs.Prelude.{Some, None}
use Rattle.model.specs.declared.Decision.TheVariants.{Granted, EmptyJournal}
use Rattle.model.specs.State.{object_count, object, with_object}
use Rattle.model.specs.Decisions.{number}
use Rattle.model.specs.Rules.{target, step}
use Rattle.model.specs.Runs.{respond}
use Rattle.model.specs.Journal.{Entry, entered, without_entries, entry_of, takes_children, journal_after, ask, restored, take_back, taking_back, Act, asks, takes_back, acted, answers}
use Rattle.model.proofs.Tests.{split, cond-true, cond-false, cond-all}
use Rattle.model.proofs.Requests.{decode-range}
use Rattle.model.proofs.After.{target_below}
use Rattle.unit.specs.Rows.{Rows, row_count, held_row, rest_row, row_at, object_of, tabulate, state_in}
use Rattle.unit.specs.Stored.{set_object, unit_of}
use Rattle.unit.proofs.Readings.{read-object}
use Rattle.unit.proofs.Stores.{object-length, object-stored}
use Rattle.unit.proofs.Units.{unit-length}
use Rattle.asking.specs.Asked.{asked}
use Rattle.asking.proofs.Lists.{asked-length, asked-state}
use Rattle.journal.specs.Ring.{entry_count, entry_in, slot_of, journal_in}
use Rattle.journal.specs.Stored.{left_rows, no_entries, Whole}
use Rattle.journal.proofs.Journals.{entered-whole, entered-says, left-whole, latest-said, left-says, none-whole, none-says}
use Rattle.journaled.specs.Units.{unit_rows, monitor_part, journal_part, said_by, begun_rows, entered_at, journal_said, asked_unit, latest_in, restored_unit, taken_unit, act_unit, acted_unit, answers_of}
use Rattle.journaled.proofs.Parts.{monitor-length, parts-put, monitor-says}

-- a unit: as many rows as it has, and the journal's rows whole
pub record WholeUnit (u : Rows) : Type 0 where
  pub rows : length u ≡ unit_rows
  pub journal : Whole (journal_part u)

-- two parts that were put together
module _ (x y : Rows) (l : length x ≡ row_count) where
  pub put-says : said_by (x ++ y) ≡ record { monitor = state_in x; journal = journal_in y }
  unfolding said_by
  put-says =
      let p = parts-put x y l in
      ap₂ (λ (m : Monitor) (j : Rows). record { monitor = m; journal = journal_in j }) (sym (monitor-says (x ++ y)) ∙ ap state_in p.0) p.1

  pub put_whole : Whole y → WholeUnit (x ++ y)
  put_whole W =
      record {
        rows = length-append x y ∙ ap₂ ◌+◌ l W.rows;
        journal = subst Whole (sym (parts-put x y l).1) W;
      }

-- ---- how many entries there are

module _ (u : Rows) where
  -- an empty journal, or one with a latest entry
  count-cases : {P : Type 0} → (entry_count (journal_part u) ≡ 0 → P) → ((n : ℕ) → entry_count (journal_part u) ≡ suc n → P) → P
  count-cases {P} f g = go (entry_count (journal_part u)) refl
    where
      go : (n : ℕ) → entry_count (journal_part u) ≡ n → P
      go zero e = f e
      go (suc n) e = g n e

  none_said : entry_count (journal_part u) ≡ 0 → journal_in (journal_part u) ≡ []
  unfolding journal_in tabulate
  none_said e = ap (λ n. tabulate n (λ i. entry_in (journal_part u) (slot_of (journal_part u) i))) e

  -- the number that it returns, by how many entries there are
  pub taken_none : entry_count (journal_part u) ≡ 0 → taking_back (journal_in (journal_part u)) ≡ EmptyJournal
  unfolding taking_back
  taken_none e = ap taking_back (none_said e)

  pub taken-some : entry_count (journal_part u) ≢ 0 → taking_back (journal_in (journal_part u)) ≡ Granted
  unfolding taking_back
  taken-some h = count-cases (λ e. absurd (h e)) (λ n e. ap taking_back (latest-said (journal_part u) n e))

-- ---- a request

module _ (u : Rows) (U : WholeUnit u) where
  -- the entry that is made of the rows of an object is its record
  entry-said : (o : ℕ) → o < object_count → object_of (row_at u o) (row_at u (held_row o)) (row_at u (rest_row o)) ≡ object (state_in u) o
  entry-said o h = read-object u o h

  entered-said : (q : Request) → InRange q → journal_in (entered_at u (target q)) ≡ entered (entry_of q (state_in u)) (journal_in (journal_part u))
  entered-said q r =
      let o = target q in
      let h = target_below q r in
      let place : o % object_count ≡ o = omega (arith, h) in
      entered-says (journal_part u) U.journal o (row_at u o) (row_at u (held_row o)) (row_at u (rest_row o))
      ∙ ap₂ (λ (n : ℕ) (ob : Object). entered (record { place = n; was = ob }) (journal_in (journal_part u))) place (entry-said o h)

  journal-said : (d : Decoded) → ((q : Request) → d ≡ Some q → InRange q) → journal_in (journal_said d u) ≡ journal_after d (state_in u) (journal_in (journal_part u))
  journal-said None r = refl
  journal-said (Some q) r =
      let zero? = eqb (number (step q (state_in u)).decision) 0 in
      let took? = takes_children q (state_in u) in
      let rows = cond took? no_entries (entered_at u (target q)) in
      let entries = cond took? [] (entered (entry_of q (state_in u)) (journal_in (journal_part u))) in
      let kept : journal_in rows ≡ entries =
      split took? (λ t. ap journal_in (cond-true took? _ _ t) ∙ none-says ∙ sym (cond-true took? _ _ t))
      (λ t. ap journal_in (cond-false took? _ _ t) ∙ entered-said q (r q refl) ∙ sym (cond-false took? _ _ t)) in
      split zero? (λ e. ap journal_in (cond-true zero? rows (journal_part u) e) ∙ kept ∙ sym (cond-true zero? entries _ e))
      (λ e. ap journal_in (cond-false zero? rows (journal_part u) e) ∙ sym (cond-false zero? entries _ e))

  journal-whole : (d : Decoded) → Whole (journal_said d u)
  journal-whole None = U.journal
  journal-whole (Some q) =
      cond-all Whole (eqb (number (step q (state_in u)).decision) 0) _ _
      (λ e. cond-all Whole (takes_children q (state_in u)) _ _ (λ t. none-whole)
      (λ t. entered-whole (journal_part u) U.journal (target q) (row_at u (target q)) (row_at u (held_row (target q))) (row_at u (rest_row (target q))))) (λ e. U.journal)

  module _ (b : List ℕ) where
    asked-rows : length (asked b (monitor_part u)) ≡ row_count
    asked-rows = asked-length b (monitor_part u) ∙ monitor-length u U.rows

    pub ask-whole : WholeUnit (asked_unit b u)
    unfolding asked_unit
    ask-whole = put_whole (asked b (monitor_part u)) _ asked-rows (journal-whole (decode (state_in u).profile b))

    pub ask-said : said_by (asked_unit b u) ≡ ask b (said_by u)
    unfolding asked_unit said_by ask
    ask-said =
        put-says (asked b (monitor_part u)) _ asked-rows
        ∙ ap₂ (λ (m : Monitor) (l : List Entry). record { monitor = m; journal = l })
        (asked-state b (monitor_part u) (monitor-length u U.rows) ∙ ap (λ (m : Monitor). (respond b m).monitor) (monitor-says u))
        (journal-said (decode (state_in u).profile b) (λ q e. decode-range (state_in u).profile b q e))

  -- ---- a taking-back

  module _ (n : ℕ) (some : entry_count (journal_part u) ≡ suc n) where
    restored_rows : Rows
    restored_rows = set_object (monitor_part u) (latest_in u).place (latest_in u).was

    restored-rows : length restored_rows ≡ row_count
    unfolding restored_rows
    restored-rows = object-length (monitor_part u) (latest_in u).place (latest_in u).was (monitor-length u U.rows) (omega arith)

    restore-whole : WholeUnit (restored_unit u)
    unfolding restored_unit restored_rows
    restore-whole = put_whole restored_rows (left_rows (journal_part u)) restored-rows (left-whole (journal_part u) U.journal n some)

    restore-said : said_by (restored_unit u) ≡ restored (state_in u) (journal_in (journal_part u))
    unfolding restored_unit restored restored_rows
    restore-said =
        put-says restored_rows (left_rows (journal_part u)) restored-rows
        ∙ ap₂ (λ (m : Monitor) (l : List Entry). record { monitor = m; journal = l })
        (object-stored (monitor_part u) (latest_in u).place (latest_in u).was (monitor-length u U.rows) (omega arith)
        ∙ ap (λ (m : Monitor). with_object m (latest_in u).place (latest_in u).was) (monitor-says u))
        (left-says (journal_part u) U.journal n some)
        ∙ sym (ap (restored (state_in u)) (latest-said (journal_part u) n some))

  pub taken-whole : WholeUnit (taken_unit u)
  unfolding taken_unit
  taken-whole =
      count-cases u
      (λ e. subst WholeUnit (sym (cond-true (eqb (entry_count (journal_part u)) 0) u (restored_unit u) (eq-eqb _ 0 e))) U)
      (λ n e. subst WholeUnit (sym (cond-false (eqb (entry_count (journal_part u)) 0) u (restored_unit u) (ne_eqb (entry_count (journal_part u)) 0 (λ z. absurd (omega (arith, z, e)))))) (restore-whole n e))

  pub taken-said : said_by (taken_unit u) ≡ take_back (said_by u)
  unfolding taken_unit take_back said_by restored
  taken-said =
      count-cases u
      (λ e. ap said_by (cond-true (eqb (entry_count (journal_part u)) 0) u (restored_unit u) (eq-eqb _ 0 e))
      ∙ ap (λ (l : List Entry). record { monitor = state_in u; journal = l }) (none_said u e) ∙ sym (ap (restored (state_in u)) (none_said u e)))
      (λ n e. ap said_by (cond-false (eqb (entry_count (journal_part u)) 0) u (restored_unit u) (ne_eqb (entry_count (journal_part u)) 0 (λ z. absurd (omega (arith, z, e))))) ∙ restore-said n e)

-- ---- lists of requests and takings-back

pub unit-append : (k l : List Act) (u : Rows) → acted_unit (k ++ l) u ≡ acted_unit l (acted_unit k u)
unfolding acted_unit
unit-append [] l u = refl
unit-append (a ∷ k) l u = unit-append k l (act_unit a u)

pub acted-whole : (l : List Act) (u : Rows) → WholeUnit u → WholeUnit (acted_unit l u)
unfolding acted_unit
acted-whole [] u U = U
acted-whole (asks b ∷ l) u U = acted-whole l (asked_unit b u) (ask-whole u U b)
acted-whole (takes_back ∷ l) u U = acted-whole l (taken_unit u) (taken-whole u U)

pub acted-said : (l : List Act) (u : Rows) → WholeUnit u → said_by (acted_unit l u) ≡ acted l (said_by u)
unfolding acted_unit acted
acted-said [] u U = refl
acted-said (asks b ∷ l) u U = acted-said l (asked_unit b u) (ask-whole u U b) ∙ ap (acted l) (ask-said u U b)
acted-said (takes_back ∷ l) u U = acted-said l (taken_unit u) (taken-whole u U) ∙ ap (acted l) (taken-said u U)

pub answers-said : (l : List Act) (u : Rows) → WholeUnit u → answers_of l u ≡ answers l (said_by u)
unfolding answers_of answers said_by
answers-said [] u U = refl
answers-said (asks b ∷ l) u U = ap₂ (λ (n : ℕ) (r : List ℕ). n ∷ r) refl (answers-said l (asked_unit b u) (ask-whole u U b) ∙ ap (answers l) (ask-said u U b))
answers-said (takes_back ∷ l) u U = ap₂ (λ (n : ℕ) (r : List ℕ). n ∷ r) refl (answers-said l (taken_unit u) (taken-whole u U) ∙ ap (answers l) (taken-said u U))

-- ---- a unit that was begun

module _ (m : Monitor) where
  pub begun-whole : WholeUnit (begun_rows m)
  unfolding begun_rows
  begun-whole = put_whole (unit_of m) no_entries (unit-length m) none-whole

  -- "a monitor begun, also from an image, has an empty one"
  pub begun-said : said_by (begun_rows m) ≡ without_entries (state_in (unit_of m))
  unfolding begun_rows
  begun-said = put-says (unit_of m) no_entries (unit-length m) ∙ ap (λ (l : List Entry). record { monitor = state_in (unit_of m); journal = l }) none-says
