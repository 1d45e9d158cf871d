-- How a rehearsal goes, once more and without a bound on its rounds, in the words of change request §12.
-- Assumes nothing.
use Rattle.std.specs.Prelude.{ℕ, ◌≡◌, ◌≢◌, List}
use Rattle.model.specs.declared.Monitor.{Monitor}
use Rattle.orders.specs.Orders.{Each}
use Rattle.task_list.specs.declared.Task.{Task}
use Rattle.rehearsal.specs.Rounds.{presented, round_monitor, round_tasks, Rehearsal, ended, after_round}

-- "all scripts are done"
abbrev pub AllDone : List Task → Type 0
AllDone ts = Each (λ (t : Task). t.count ≡ 0) ts

-- "ends when all scripts are done, or after a round that moves nobody"
pub data Goes (area : List ℕ) : List Task → Monitor → Rehearsal → Type 0 where
  done : (ts : List Task) (m : Monitor) → AllDone ts → Goes area ts m (ended m)
  halted : (ts : List Task) (m : Monitor) → (AllDone ts → ⊥) → round_tasks area ts m ≡ ts
      → Goes area ts m (after_round (presented area ts) (ended (round_monitor area ts m)))
  further : (ts : List Task) (m : Monitor) (r : Rehearsal) → round_tasks area ts m ≢ ts → Goes area (round_tasks area ts m) (round_monitor area ts m) r
      → Goes area ts m (after_round (presented area ts) r)
