-- Rounds of a rehearsal ("Rehearsal of a plant", change request §12): what a task presents, when it moves on, and what a round leaves.
-- Assumes nothing.
use Rattle.std.specs.Prelude.{ℕ, zero, suc, ◌+◌, ◌-◌, Bool, cond, ◌||◌, List, [], ◌∷◌, ◌++◌, get_or, eqb, ltb}
use Rattle.model.specs.declared.Fields.{Fields}
use Rattle.model.specs.declared.Monitor.{Monitor}
use Rattle.model.specs.Requests.{fields, pack}
use Rattle.model.specs.Runs.{respond, reply}
use Rattle.model.specs.Program.{pieces}
use Rattle.orders.specs.Sums.{sum_over}
use Rattle.task_list.specs.declared.Task.{Task}

-- ---- a task

-- "with its task's subject as actor"
abbrev pub acted_by : ℕ → Fields → Fields
acted_by s f =
    record {
      kind = f.kind;
      actor = s;
      other = f.other;
      object = f.object;
      mode = f.mode;
      class = f.class;
      needs = f.needs;
      spare = f.spare;
    }

-- the bits of the actor are replaced before the request is decoded, and no other bit
unfoldable pub with_actor : ℕ → List ℕ → List ℕ
with_actor s b = pack (acted_by s (fields b))

-- "its next request": the one at the start of its place "in a shared script area of .. six-byte requests", "presented with its task's subject as
-- actor"
unfoldable pub next_request : List ℕ → Task → List ℕ
next_request area t = with_actor t.subject (get_or (pieces area) t.start [])

-- a "task with work left"
abbrev pub has_work : Task → Bool
has_work t = ltb 0 t.count

-- "Replies 9 and 18 keep it for the next round"
abbrev pub keeps : ℕ → Bool
keeps r = eqb r 9 || eqb r 18

-- the place begins one request later and has one less
abbrev pub moved_on : Task → Task
moved_on t = record { subject = t.subject; start = t.start + 1; count = t.count - 1 }

-- "any other reply moves the task on"
unfoldable pub after_reply : ℕ → Task → Task
after_reply r t = cond (keeps r) t (moved_on t)

-- ---- the turn of a task in a round

-- what it presents: one request, or none where it has no work left
unfoldable pub presents : List ℕ → Task → List (List ℕ)
presents area t = cond (has_work t) (next_request area t ∷ []) []

-- the monitor that it leaves
unfoldable pub turn_monitor : List ℕ → Task → Monitor → Monitor
turn_monitor area t m = cond (has_work t) (respond (next_request area t) m).monitor m

-- what is left of the task
unfoldable pub turn_task : List ℕ → Task → Monitor → Task
turn_task area t m = cond (has_work t) (after_reply (reply (next_request area t) m) t) t

-- ---- a round

-- "In each round every task with work left presents its next request, in list order": the requests
unfoldable pub presented : List ℕ → List Task → List (List ℕ)
presented area [] = []
presented area (t ∷ ts) = presents area t ++ presented area ts

-- the monitor after it: each task meets the one that the task before it left
unfoldable pub round_monitor : List ℕ → List Task → Monitor → Monitor
round_monitor area [] m = m
round_monitor area (t ∷ ts) m = round_monitor area ts (turn_monitor area t m)

-- the tasks after it
unfoldable pub round_tasks : List ℕ → List Task → Monitor → List Task
round_tasks area [] m = []
round_tasks area (t ∷ ts) m = turn_task area t m ∷ round_tasks area ts (turn_monitor area t m)

-- ---- rounds

-- what "the tasks' counts sum to"
unfoldable pub work_left : List Task → ℕ
work_left ts = sum_over ts (λ t. t.count)

-- a rehearsal: "the number of rounds made", "the flat list of requests presented", and the monitor in the end
pub record Rehearsal : Type 0 where
  pub rounds : ℕ
  pub flat : List (List ℕ)
  pub monitor : Monitor

abbrev pub ended : Monitor → Rehearsal
ended m = record { rounds = 0; flat = []; monitor = m }

-- a round in front of a rehearsal
abbrev pub after_round : List (List ℕ) → Rehearsal → Rehearsal
after_round bs r = record { rounds = suc r.rounds; flat = bs ++ r.flat; monitor = r.monitor }

-- at most n rounds: it "ends when all scripts are done, or after a round that moves nobody", in which as much work is left as before it
unfoldable pub rounds_of : ℕ → List ℕ → List Task → Monitor → Rehearsal
rounds_of zero area ts m = ended m
rounds_of (suc n) area ts m =
    cond (eqb (work_left ts) 0) (ended m)
    (after_round (presented area ts)
    (cond (eqb (work_left (round_tasks area ts m)) (work_left ts)) (ended (round_monitor area ts m))
    (rounds_of n area (round_tasks area ts m) (round_monitor area ts m))))

-- "makes at most as many rounds as the tasks' counts sum to"
unfoldable pub rehearsal : List ℕ → List Task → Monitor → Rehearsal
rehearsal area ts m = rounds_of (work_left ts) area ts m
