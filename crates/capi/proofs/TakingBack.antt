-- Taking back (change request §9), of a unit: `circmon_take_back` after `circmon_ask`.
-- Assumes nothing.
use Prim.Native.Nat.{ℕ, ◌≤◌}
use native.Mathlib.Omega.{arith}
use mathlib.Core.Path.{◌≡◌, sym, ap, ◌∙◌}
use mathlib.Core.Bool.{true, false}
use mathlib.Core.List.{List, [], ◌++◌, map}
use lib.ListN.{length, replicate}
use lib.Dec.{eqb}
use borrow.Author.Tests.{eq-eqb}
use Rattle.model.specs.Decisions.{number}
use Rattle.model.specs.Runs.{reply, replies}
use Rattle.model.specs.Journal.{Journaled, journal_size, without_entries, take_back, taking_back, Act, asks, takes_back, acted, answers}
use Rattle.model.specs.Beginnings.{Beginning, begun, left_with, left}
use Rattle.model.proofs.Tests.{split, apart, cond-true}
use Rattle.invariants.specs.TakingBack.{zeros, took_children, none_took}
use Rattle.invariants.proofs.TakingBack.{taken_back, empty-17, acted-fits, acted-append, asked-replies, takings-restore, children-empty}
use Rattle.unit.specs.Rows.{Rows, state_in}
use Rattle.unit.specs.Stored.{unit_of}
use Rattle.journal.specs.Ring.{entry_count}
use Rattle.journal.proofs.Journals.{entries_fit}
use Rattle.journaled.specs.Units.{monitor_part, journal_part, said_by, begun_rows, asked_unit, taken_unit, acted_unit, answer_of, answers_of}
use Rattle.journaled.proofs.Said.{WholeUnit, ask-whole, ask-said, taken-some, taken-said, acted-whole, acted-said, answers-said, unit-append}
use Rattle.capi.specs.UnitRuns.{begun_unit, unit_after, unit_asked, unit_replies}
use Rattle.capi.proofs.UnitRuns.{after-said, after-whole, unit-rows, further-replies}

-- ---- every content of a unit

-- after a reply 0 that took no children it returns 0 and the state is what it was
pub any-taken-back : (u : Rows) → WholeUnit u → (b : List ℕ) → reply b (state_in u) ≡ 0 → took_children b (state_in u) ≡ false
    → (answer_of takes_back (asked_unit b u) ≡ 0) × (state_in (taken_unit (asked_unit b u)) ≡ state_in u)
unfolding said_by
any-taken-back u U b z none =
    let t = taken_back b (said_by u) z none in (
      ap (λ (j : Journaled). number (taking_back j.journal)) (ask-said u U b) ∙ t.1,
      ap (λ (j : Journaled). j.monitor) (taken-said (asked_unit b u) (ask-whole u U b) ∙ ap take_back (ask-said u U b) ∙ t.0),
    )

-- "A deletion that took children empties the journal" (change request §11): after it it returns 17
pub any-children-empty : (u : Rows) → WholeUnit u → (b : List ℕ) → took_children b (state_in u) ≡ true → answer_of takes_back (asked_unit b u) ≡ 17
unfolding said_by
any-children-empty u U b took = ap (λ (j : Journaled). number (taking_back j.journal)) (ask-said u U b) ∙ (children-empty b (said_by u) took).1

-- and so it is after a list of requests that took none and of which n replied 0, n at most 32, with n takings-back
pub any-takings-restore : (u : Rows) → WholeUnit u → (bs : List (List ℕ)) → none_took bs (state_in u) ≡ true → (n : ℕ) → zeros (unit_replies bs u) ≡ n → n ≤ journal_size
    → state_in (acted_unit (replicate n takes_back) (unit_asked bs u)) ≡ state_in u
unfolding said_by
any-takings-restore u U bs none n z h =
    let count : zeros (replies bs (state_in u)) ≡ n = ap zeros (sym (answers-said (map asks bs) u U ∙ asked-replies bs (said_by u))) ∙ z in
    ap (λ (j : Journaled). j.monitor)
    (acted-said (replicate n takes_back) (unit_asked bs u) (acted-whole (map asks bs) u U) ∙ ap (acted (replicate n takes_back)) (acted-said (map asks bs) u U)
    ∙ (takings-restore bs (said_by u) (entries_fit (journal_part u)) none n count h).0)

-- ---- a unit that was started or opened, then asked and taken back in any order

module _ (b : Beginning) (l : List Act) where
  -- further calls, and the rows of the monitor that they leave
  rows-after : (k : List Act) → monitor_part (acted_unit k (unit_after b l)) ≡ unit_of (acted k (left_with b l)).monitor
  rows-after k =
      ap monitor_part (sym (unit-append l k (begun_unit b))) ∙ unit-rows b (l ++ k)
      ∙ ap (λ (j : Journaled). unit_of j.monitor) (acted-append l k (without_entries (begun b).monitor))

  answers-after : (k : List Act) → answers_of k (unit_after b l) ≡ answers k (left_with b l)
  answers-after k = answers-said k (unit_after b l) (after-whole b l) ∙ ap (answers k) (after-said b l)

  fits : length (left_with b l).journal ≤ journal_size
  fits = acted-fits l (without_entries (begun b).monitor) (omega arith)

  -- "after n requests with reply 0, n at most 32 and no taking-back among them, n takings-back restore the state before them all": every byte of the
  -- monitor is what it was, where none of the requests took children
  pub unit-takings-restore : (bs : List (List ℕ)) → none_took bs (left b l) ≡ true → (n : ℕ) → zeros (unit_replies bs (unit_after b l)) ≡ n → n ≤ journal_size
      → monitor_part (acted_unit (replicate n takes_back) (unit_asked bs (unit_after b l))) ≡ monitor_part (unit_after b l)
  unit-takings-restore bs none n z h =
      let count : zeros (replies bs (left b l)) ≡ n = ap zeros (sym (further-replies b l bs)) ∙ z in
      ap monitor_part (sym (unit-append (map asks bs) (replicate n takes_back) (unit_after b l)))
      ∙ rows-after (map asks bs ++ replicate n takes_back)
      ∙ ap (λ (j : Journaled). unit_of j.monitor) (acted-append (map asks bs) (replicate n takes_back) (left_with b l) ∙ (takings-restore bs (left_with b l) fits none n count h).0)
      ∙ sym (unit-rows b l)

-- and each of them returns 0
pub unit-takings-0 : (b : Beginning) (l : List Act) (bs : List (List ℕ)) → none_took bs (left b l) ≡ true → (n : ℕ) → zeros (unit_replies bs (unit_after b l)) ≡ n → n ≤ journal_size
    → answers_of (replicate n takes_back) (unit_asked bs (unit_after b l)) ≡ replicate n 0
unit-takings-0 b l bs none n z h =
    let count : zeros (replies bs (left b l)) ≡ n = ap zeros (sym (further-replies b l bs)) ∙ z in
    ap (answers_of (replicate n takes_back)) (sym (unit-append l (map asks bs) (begun_unit b)))
    ∙ answers-after b (l ++ map asks bs) (replicate n takes_back)
    ∙ ap (answers (replicate n takes_back)) (acted-append l (map asks bs) (without_entries (begun b).monitor))
    ∙ (takings-restore bs (left_with b l) (fits b l) none n count h).1

-- ---- an empty journal

-- 17 leaves every byte of any unit
pub take-17-leaves : (u : Rows) → answer_of takes_back u ≡ 17 → taken_unit u ≡ u
unfolding taken_unit said_by
take-17-leaves u e =
    split (eqb (entry_count (journal_part u)) 0)
    (λ none. cond-true _ u _ none)
    (λ some. let granted = ap number (taken-some u (λ z. apart (eq-eqb (entry_count (journal_part u)) 0 z) some)) in absurd (omega (arith, e, granted)))

-- a unit that was begun has one
pub begun-17 : (b : Beginning) → answer_of takes_back (begun_unit b) ≡ 17
unfolding acted acted_unit begun_rows
begun-17 b = ap (λ (j : Journaled). number (taking_back j.journal)) (after-said b []) ∙ (empty-17 (begun b).monitor).0
