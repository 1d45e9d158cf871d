-- What the functions on a unit leave, from what the functions on its two parts left.
-- Assumes nothing.
use Prim.Native.Nat.{ℕ, ◌<◌}
use native.Mathlib.Omega.{arith}
use mathlib.Core.Path.{◌≡◌, refl, sym, ap, ap₂, ◌∙◌}
use mathlib.Core.Logic.{◌≢◌}
use mathlib.Core.Bool.{Bool, cond, ◌&&◌}
use mathlib.Core.List.{List, ◌++◌}
use lib.ListN.{length}
use lib.Dec.{eqb}
use borrow.Author.Tests.{eq-eqb, ne_eqb}
use Rattle.model.specs.declared.Object.{Object}
use Rattle.model.specs.declared.Monitor.{Monitor}
use Rattle.model.specs.State.{object_count}
use Rattle.model.specs.Requests.{Decoded, decode}
use Rattle.std.specs.Prelude.{Some, None}
use Rattle.model.specs.Decisions.{number}
use Rattle.model.specs.Rules.{target, step}
use Rattle.model.specs.Hierarchy.{has_child}
use Rattle.model.specs.Journal.{takes_children}
use Rattle.model.specs.Runs.{carry_out, respond, reply}
use Rattle.model.proofs.Tests.{cond-true, cond-false}
use Rattle.unit.specs.Rows.{Rows, row_count, held_row, rest_row, row_at, objects_in, state_in}
use Rattle.unit.specs.Stored.{set_object, unit_of}
use Rattle.asking.specs.Asked.{asked}
use Rattle.journal.specs.Ring.{entry_count, entry_in, slot_of}
use Rattle.journal.specs.Stored.{entered_rows, left_rows, no_entries}
use Rattle.journaled.specs.Units.{monitor_part, journal_part, begun_rows, named, deletes, entered_at, journal_said, asked_unit, latest_in, restored_unit}
use Rattle.journaled.proofs.Parts.{parts-put, row-there, monitor-says}
use Rattle.journaled.proofs.Places.{named-target, named-below, takes-said}

-- ---- what a reply does to the journal's rows

-- the object that the bytes name is entered, or all entries go
abbrev entered_by : Rows → List ℕ → Rows
entered_by u b = cond (deletes b && has_child (objects_in u) (named b)) no_entries (entered_at u (named b))

module _ (b : List ℕ) (u : Rows) where
  by-reply : (d : Decoded) → decode (state_in u).profile b ≡ d
      → (number (carry_out d (state_in u)).decision ≡ 0 → journal_said d u ≡ entered_by u b) × (number (carry_out d (state_in u)).decision ≢ 0 → journal_said d u ≡ journal_part u)
  by-reply None e = (λ z. absurd (omega (arith, z)), λ n. refl)
  by-reply (Some q) e = (
    λ z. cond-true (eqb (number (step q (state_in u)).decision) 0) (cond (takes_children q (state_in u)) no_entries (entered_at u (target q))) (journal_part u) (eq-eqb _ 0 z)
        ∙ ap₂ (λ (t : Bool) (o : ℕ). cond t no_entries (entered_at u o)) (sym (takes-said (state_in u).profile b q (state_in u) e)) (sym (named-target (state_in u).profile b q e)),
    λ n. cond-false (eqb (number (step q (state_in u)).decision) 0) (cond (takes_children q (state_in u)) no_entries (entered_at u (target q))) (journal_part u) (ne_eqb _ 0 n),
  )

  entered-0 : reply b (state_in u) ≡ 0 → journal_said (decode (state_in u).profile b) u ≡ entered_by u b
  unfolding respond
  entered-0 = (by-reply (decode (state_in u).profile b) refl).0

  kept-else : reply b (state_in u) ≢ 0 → journal_said (decode (state_in u).profile b) u ≡ journal_part u
  unfolding respond
  kept-else = (by-reply (decode (state_in u).profile b) refl).1

-- a unit, by its two parts
module _ (m j : Rows) (n : length m ≡ row_count) where
  front : monitor_part (m ++ j) ≡ m
  front = (parts-put m j n).0

  behind : journal_part (m ++ j) ≡ j
  behind = (parts-put m j n).1

  pub front-says : state_in (m ++ j) ≡ state_in m
  front-says = sym (monitor-says (m ++ j)) ∙ ap state_in front

  pub said-behind : entry_count (journal_part (m ++ j)) ≡ entry_count j
  said-behind = ap entry_count behind

  row-same : (i : ℕ) → i < row_count → row_at m i ≡ row_at (m ++ j) i
  row-same i h = ap (λ (v : Rows). row_at v i) (sym front) ∙ row-there (m ++ j) i h

  -- ---- a request

  module _ (b : List ℕ) (w : Rows) (r : ℕ) (answers : r ≡ reply b (state_in m)) (leaves : w ≡ asked b m) where
    said : r ≡ reply b (state_in (m ++ j))
    said = answers ∙ ap (reply b) (sym front-says)

    kept : w ≡ asked b (monitor_part (m ++ j))
    kept = leaves ∙ ap (asked b) (sym front)

    entered : (o : ℕ) → o < object_count → entered_rows j o (row_at m o) (row_at m (held_row o)) (row_at m (rest_row o)) ≡ entered_at (m ++ j) o
    entered o h =
        let rights = row-same o (omega arith) in
        let held = row-same (held_row o) (omega arith) in
        let rest = row-same (rest_row o) (omega arith) in
        λ i. entered_rows (sym behind i) o (rights i) (held i) (rest i)

    pub asked-0 : (t : Bool) (y : Rows) → t ≡ (deletes b && has_child (objects_in m) (named b)) → r ≡ 0
        → y ≡ cond t no_entries (entered_rows j (named b) (row_at m (named b)) (row_at m (held_row (named b))) (row_at m (rest_row (named b))))
        → (r ≡ reply b (state_in (m ++ j))) × (w ++ y ≡ asked_unit b (m ++ j))
    unfolding asked_unit
    asked-0 t y took zero stored = (
      said,
      ap₂ (λ (x z : Rows). x ++ z) kept
          (stored
          ∙ ap₂ (λ (k : Bool) (z : Rows). cond k no_entries z) (took ∙ ap (λ (k : Monitor). deletes b && has_child k.objects (named b)) (sym front-says)) (entered (named b) (named-below b))
          ∙ sym (entered-0 b (m ++ j) (sym said ∙ zero))),
    )

    pub asked-else : r ≢ 0 → (r ≡ reply b (state_in (m ++ j))) × (w ++ j ≡ asked_unit b (m ++ j))
    unfolding asked_unit
    asked-else other = (said, ap₂ (λ (x z : Rows). x ++ z) kept (sym behind ∙ sym (kept-else b (m ++ j) (λ e. other (said ∙ e)))))

  -- ---- a taking-back

  module _ (k o : ℕ) (was : Object) (slot : k ≡ slot_of j 0) (place : o ≡ (entry_in j k).place) (record-was : was ≡ (entry_in j k).was) where
    latest : entry_in j k ≡ latest_in (m ++ j)
    latest = ap (entry_in j) slot ∙ ap (λ (r : Rows). entry_in r (slot_of r 0)) (sym behind)

    pub restored_by : (w y : Rows) → w ≡ set_object m o was → y ≡ left_rows j → w ++ y ≡ restored_unit (m ++ j)
    unfolding restored_unit
    restored_by w y stored gone =
        let at : o ≡ (latest_in (m ++ j)).place = place ∙ ap (λ e. e.place) latest in
        let what : was ≡ (latest_in (m ++ j)).was = record-was ∙ ap (λ e. e.was) latest in
        ap₂ (λ (x z : Rows). x ++ z) (stored ∙ λ i. set_object (sym front i) (at i) (what i)) (gone ∙ ap left_rows (sym behind))

-- ---- a beginning

pub begun-by : (m : Monitor) (w y : Rows) → w ≡ unit_of m → y ≡ no_entries → w ++ y ≡ begun_rows m
unfolding begun_rows
begun-by m w y begun empty = ap₂ (λ (x z : Rows). x ++ z) begun empty
