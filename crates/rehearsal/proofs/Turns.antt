-- The turn of a task and a round: the monitor after them, and how much work is left.
-- Assumes nothing.
use Prim.Native.Nat.{ℕ, suc, ◌-◌, ◌<◌}
use native.Mathlib.Omega.{arith}
use mathlib.Core.Path.{◌≡◌, refl, sym, ap, ap₂, ◌∙◌}
use mathlib.Core.Logic.{◌⊎◌, inl, inr, ⊎_elim}
use mathlib.Core.Bool.{true, false}
use mathlib.Core.List.{List, [], ◌∷◌}
use lib.Dec.{eqb, ltb}
use borrow.Author.Tests.{ltb-true, lt-ltb, eqb-true}
use Rattle.model.specs.declared.Monitor.{Monitor}
use Rattle.model.specs.Runs.{reply, after}
use Rattle.model.proofs.Tests.{split, cond-true, cond-false, or_cases}
use Rattle.model.proofs.Lists.{after-append}
use Rattle.orders.specs.Sums.{sum_over}
use Rattle.effects.proofs.Demand2.{refusal-leaves-state}
use Rattle.task_list.specs.declared.Task.{Task}
use Rattle.rehearsal.specs.Rounds.{next_request, has_work, keeps, moved_on, after_reply, presents, turn_monitor, turn_task, presented, round_monitor, round_tasks, work_left}

-- ---- a turn

-- the monitor after a turn is that after the request presented in it
pub turn-flat : (area : List ℕ) (t : Task) (m : Monitor) → turn_monitor area t m ≡ after (presents area t) m
unfolding turn_monitor presents after
turn-flat area t m = split (has_work t) (λ e. rw e refl) (λ e. rw e refl)

-- who has no work left presents nothing, and stays
pub idle-turn : (area : List ℕ) (t : Task) (m : Monitor) → t.count ≡ 0 → (presents area t ≡ []) × (turn_task area t m ≡ t)
unfolding presents turn_task
idle-turn area t m e =
    let w : has_work t ≡ false = ap (ltb 0) e in
    (cond-false (has_work t) _ _ w, cond-false (has_work t) _ _ w)

-- who has work left presents its next request
pub working-turn : (area : List ℕ) (t : Task) (m : Monitor) → 0 < t.count
    → (presents area t ≡ next_request area t ∷ []) × (turn_task area t m ≡ after_reply (reply (next_request area t) m) t)
unfolding presents turn_task
working-turn area t m h =
    let w : has_work t ≡ true = lt-ltb 0 t.count h in
    (cond-true (has_work t) _ _ w, cond-true (has_work t) _ _ w)

-- "Replies 9 and 18 keep it for the next round; any other reply moves the task on"
pub nine-keeps : (t : Task) → after_reply 9 t ≡ t
unfolding after_reply
nine-keeps t = refl

pub eighteen-keeps : (t : Task) → after_reply 18 t ≡ t
unfolding after_reply
eighteen-keeps t = refl

pub kept_by : (r : ℕ) → keeps r ≡ true → (r ≡ 9) ⊎ (r ≡ 18)
kept_by r e = or_cases (eqb r 9) (eqb r 18) e (λ q. inl (eqb-true r 9 q)) (λ q. inr (eqb-true r 18 q))

pub others-move : (r : ℕ) (t : Task) → keeps r ≡ false → after_reply r t ≡ moved_on t
unfolding after_reply
others-move r t e = cond-false (keeps r) _ _ e

-- a turn keeps the task or takes one request off its work
pub turn-work : (area : List ℕ) (t : Task) (m : Monitor) → (turn_task area t m ≡ t) ⊎ (suc (turn_task area t m).count ≡ t.count)
unfolding turn_task after_reply
turn-work area t m =
    split (has_work t)
    (λ e. split (keeps (reply (next_request area t) m))
    (λ k. inl (cond-true (has_work t) _ _ e ∙ cond-true (keeps (reply (next_request area t) m)) _ _ k))
    (λ k. inr (ap (λ (u : Task). suc u.count) (cond-true (has_work t) _ _ e ∙ cond-false (keeps (reply (next_request area t) m)) _ _ k)
    ∙ omega (arith, ltb-true 0 t.count e))))
    (λ e. inl (cond-false (has_work t) _ _ e))

-- a turn that keeps the task leaves the monitor: what was presented was refused
pub kept-turn : (area : List ℕ) (t : Task) (m : Monitor) → turn_task area t m ≡ t → turn_monitor area t m ≡ m
unfolding turn_task turn_monitor after_reply
kept-turn area t m stays =
    split (has_work t)
    (λ e. cond-true (has_work t) _ _ e
    ∙ split (keeps (reply (next_request area t) m))
    (λ k. refusal-leaves-state (next_request area t) m (⊎_elim (λ (q : reply (next_request area t) m ≡ 9). omega (arith, q)) (λ (q : reply (next_request area t) m ≡ 18). omega (arith, q)) (kept_by (reply (next_request area t) m) k)))
    (λ k.
    let less : t.count - 1 ≡ t.count =
    ap (λ (u : Task). u.count) (sym (cond-true (has_work t) _ t e ∙ cond-false (keeps (reply (next_request area t) m)) t (moved_on t) k) ∙ stays) in
    absurd (omega (arith, ltb-true 0 t.count e, less))))
    (λ e. cond-false (has_work t) _ _ e)

-- ---- a round

-- the monitor after a round is that after the requests presented in it
pub round-flat : (area : List ℕ) (ts : List Task) (m : Monitor) → round_monitor area ts m ≡ after (presented area ts) m
unfolding round_monitor presented after
round-flat area [] m = refl
round-flat area (t ∷ ts) m =
    round-flat area ts (turn_monitor area t m) ∙ ap (after (presented area ts)) (turn-flat area t m)
    ∙ sym (after-append (presents area t) (presented area ts) m)

-- a round keeps every task or leaves less work
pub round-work : (area : List ℕ) (ts : List Task) (m : Monitor) → (round_tasks area ts m ≡ ts) ⊎ (work_left (round_tasks area ts m) < work_left ts)
unfolding round_tasks work_left sum_over
round-work area [] m = inl refl
round-work area (t ∷ ts) m = go (turn-work area t m) (round-work area ts (turn_monitor area t m))
  where
    go : (turn_task area t m ≡ t) ⊎ (suc (turn_task area t m).count ≡ t.count)
        → (round_tasks area ts (turn_monitor area t m) ≡ ts) ⊎ (work_left (round_tasks area ts (turn_monitor area t m)) < work_left ts)
        → (round_tasks area (t ∷ ts) m ≡ t ∷ ts) ⊎ (work_left (round_tasks area (t ∷ ts) m) < work_left (t ∷ ts))
    go (inl e) (inl f) = inl (ap₂ (λ (u : Task) (us : List Task). u ∷ us) e f)
    go (inl e) (inr h) = let k : (turn_task area t m).count ≡ t.count = ap (λ (u : Task). u.count) e in inr (omega (arith, h, k))
    go (inr e) (inl f) = let k : work_left (round_tasks area ts (turn_monitor area t m)) ≡ work_left ts = ap work_left f in inr (omega (arith, e, k))
    go (inr e) (inr h) = inr (omega (arith, e, h))

-- the tasks of a round that keeps every task, one by one
cons-first : {t u : Task} {ts us : List Task} → t ∷ ts ≡ u ∷ us → t ≡ u
cons-first {t} e = ap (λ (l : List Task). first l) e
  where
    first : List Task → Task
    first [] = t
    first (x ∷ l) = x

cons-rest : {t u : Task} {ts us : List Task} → t ∷ ts ≡ u ∷ us → ts ≡ us
cons-rest e = ap rest e
  where
    rest : List Task → List Task
    rest [] = []
    rest (x ∷ l) = l

-- a round that moves nobody leaves the monitor, so that another one would be the same
pub idle-round-leaves : (area : List ℕ) (ts : List Task) (m : Monitor) → round_tasks area ts m ≡ ts → round_monitor area ts m ≡ m
unfolding round_tasks round_monitor
idle-round-leaves area [] m e = refl
idle-round-leaves area (t ∷ ts) m e =
    let same : turn_monitor area t m ≡ m = kept-turn area t m (cons-first e) in
    ap (round_monitor area ts) same ∙ idle-round-leaves area ts m (ap (round_tasks area ts) (sym same) ∙ cons-rest e)
