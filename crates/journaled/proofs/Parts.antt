-- The two parts of a unit, and what is stored in them one after the other.
-- Assumes nothing.
use Prim.Native.Nat.{ℕ, ◌<◌}
use native.Mathlib.Omega.{arith}
use mathlib.Core.Path.{◌≡◌, ap, ap₂, ◌∙◌}
use mathlib.Core.List.{List, [], ◌++◌, append-nil}
use lib.ListN.{length, take, drop, length-drop, drop_of_length-le}
use lib.Seq.{take_all, take_at, drop_at, get_or-take, length-take-le}
use Rattle.std.proofs.lemmas.List.{take-append-drop}
use Rattle.model.specs.State.{nobody, no_object}
use Rattle.model.proofs.Equal.{monitor-ext}
use Rattle.unit.specs.Rows.{Rows, row_count, held_row, rest_row, clearance_row, profile_row, row_at, label_in, profile_in, object_of, object_in, subject_in, state_in}
use Rattle.unit.proofs.Tabulated.{tabulate-same}
use Rattle.journal.specs.Ring.{journal_rows}
use Rattle.journaled.specs.Units.{unit_rows, monitor_part, journal_part}

module _ (u : Rows) (n : length u ≡ unit_rows) where
  pub monitor-length : length (monitor_part u) ≡ row_count
  monitor-length = length-take-le row_count u (omega (arith, n))

  pub journal-length : length (journal_part u) ≡ journal_rows
  journal-length = length-drop row_count u ∙ omega (arith, n)

  -- the rows from 209 to 307 are the journal's
  pub part-behind : take journal_rows (drop row_count u) ≡ journal_part u
  part-behind = take_all journal_rows (journal_part u) (omega (arith, journal-length))

  -- where the monitor's rows have become x, the journal's are what they were; and where they then become y, there is nothing behind them
  module _ (x : Rows) (l : length x ≡ row_count) where
    pub behind-kept : take journal_rows (drop row_count (x ++ drop row_count u)) ≡ journal_part u
    behind-kept = ap (take journal_rows) (drop_at x (drop row_count u) row_count l) ∙ part-behind

    pub both_stored : (y z : Rows) → y ≡ z → take row_count (x ++ drop row_count u) ++ (y ++ drop journal_rows (drop row_count (x ++ drop row_count u))) ≡ x ++ z
    both_stored y z e =
        ap₂ (λ (a b : Rows). a ++ b) (take_at x (drop row_count u) row_count l)
        (ap (λ (a : Rows). y ++ drop journal_rows a) (drop_at x (drop row_count u) row_count l)
        ∙ ap (λ (a : Rows). y ++ a) (drop_of_length-le (journal_part u) {i = journal_rows} (omega (arith, journal-length)))
        ∙ append-nil y ∙ e)

-- the parts of two that were put together
pub parts-put : (x y : Rows) → length x ≡ row_count → (monitor_part (x ++ y) ≡ x) × (journal_part (x ++ y) ≡ y)
parts-put x y l = (take_at x y row_count l, drop_at x y row_count l)

-- a unit whose first rows are lent as the monitor's and the rows behind them as the journal's
pub put-together : (u m r j : Rows) → m ≡ take row_count u → r ≡ drop row_count u → j ≡ r → m ++ j ≡ u
put-together u m r j first behind same = ap₂ (λ (x y : Rows). x ++ y) first (same ∙ behind) ∙ take-append-drop row_count u

-- a row of the monitor is read of its part or of the whole unit
pub row-there : (u : Rows) (i : ℕ) → i < row_count → row_at (monitor_part u) i ≡ row_at u i
row-there u i h = get_or-take row_count u i [] h

-- so both say the same monitor
pub monitor-says : (u : Rows) → state_in (monitor_part u) ≡ state_in u
monitor-says u =
    monitor-ext _ _ (ap profile_in (row-there u profile_row (omega arith)))
    (tabulate-same 16 (subject_in u) (subject_in (monitor_part u)) nobody
    (λ s h. ap (λ (row : List ℕ). record { clearance = label_in row }) (row-there u (clearance_row s) (omega arith))))
    (tabulate-same 64 (object_in u) (object_in (monitor_part u)) no_object
    (λ o h.
    let rights = row-there u o (omega arith) in
    let held = row-there u (held_row o) (omega arith) in
    let rest = row-there u (rest_row o) (omega arith) in
    λ i. object_of (rights i) (held i) (rest i)))
