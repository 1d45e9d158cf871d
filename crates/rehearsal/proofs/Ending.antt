-- A rehearsal ends as change request §12 says, in as many rounds as it says, and its monitor is that after the flat list of requests presented.
-- Assumes nothing.
use Prim.Native.Nat.{ℕ, zero, suc, ◌<◌, ◌≤◌}
use native.Mathlib.Omega.{arith}
use mathlib.Core.Path.{◌≡◌, refl, sym, ap, ◌∙◌, subst}
use mathlib.Core.Logic.{⊎_elim, ◌↔◌, ◌≢◌}
use mathlib.Core.List.{List, [], ◌∷◌}
use lib.Dec.{eqb}
use borrow.Author.Tests.{eqb-true, eqb-false, eq-eqb, ne_eqb}
use Rattle.model.specs.declared.Monitor.{Monitor}
use Rattle.model.specs.Runs.{after}
use Rattle.model.specs.Beginnings.{Reached}
use Rattle.model.specs.Layout.{image_of}
use Rattle.model.proofs.Tests.{split, cond-true, cond-false}
use Rattle.model.proofs.Lists.{after-append}
use Rattle.orders.specs.Sums.{sum_over}
use Rattle.images.proofs.Reached.{reached-after}
use Rattle.task_list.specs.declared.Task.{Task}
use Rattle.rehearsal.specs.Rounds.{presented, round_monitor, round_tasks, work_left, Rehearsal, ended, after_round, rounds_of, rehearsal}
use Rattle.rehearsal.specs.Course.{AllDone, Goes, done, halted, further}
use Rattle.rehearsal.proofs.Turns.{round-flat, round-work}

-- ---- work

-- "all scripts are done" exactly where no work is left
pub no-work : (ts : List Task) → work_left ts ≡ 0 → AllDone ts
unfolding work_left sum_over
no-work [] e = tt
no-work (t ∷ ts) e = (omega (arith, e), no-work ts (omega (arith, e)))

pub done-no-work : (ts : List Task) → AllDone ts → work_left ts ≡ 0
unfolding work_left sum_over
done-no-work [] d = refl
done-no-work (t ∷ ts) d = omega (arith, d.0, done-no-work ts d.1)

-- a round moved nobody exactly where as much work is left as before it
pub same-work : (area : List ℕ) (ts : List Task) (m : Monitor) → work_left (round_tasks area ts m) ≡ work_left ts → round_tasks area ts m ≡ ts
same-work area ts m e = ⊎_elim (λ (q : round_tasks area ts m ≡ ts). q) (λ (h : work_left (round_tasks area ts m) < work_left ts). absurd (omega (arith, h, e))) (round-work area ts m)

less-work : (area : List ℕ) (ts : List Task) (m : Monitor) → round_tasks area ts m ≢ ts → work_left (round_tasks area ts m) < work_left ts
less-work area ts m d = ⊎_elim (λ (q : round_tasks area ts m ≡ ts). absurd (d q)) (λ (h : work_left (round_tasks area ts m) < work_left ts). h) (round-work area ts m)

above_zero : (n : ℕ) → (n ≡ 0 → ⊥) → 0 < n
above_zero zero h = absurd (h refl)
above_zero (suc n) h = omega arith

-- ---- the three ways on

module _ (n : ℕ) (area : List ℕ) (ts : List Task) (m : Monitor) where
  pub rounds-done : work_left ts ≡ 0 → rounds_of (suc n) area ts m ≡ ended m
  unfolding rounds_of
  rounds-done e = cond-true (eqb (work_left ts) 0) _ _ (eq-eqb (work_left ts) 0 e)

  pub rounds-halted : 0 < work_left ts → work_left (round_tasks area ts m) ≡ work_left ts
      → rounds_of (suc n) area ts m ≡ after_round (presented area ts) (ended (round_monitor area ts m))
  unfolding rounds_of
  rounds-halted h e =
      cond-false (eqb (work_left ts) 0) _ _ (ne_eqb (work_left ts) 0 (λ (z : work_left ts ≡ 0). omega (arith, z, h)))
      ∙ ap (after_round (presented area ts)) (cond-true (eqb (work_left (round_tasks area ts m)) (work_left ts)) _ _ (eq-eqb (work_left (round_tasks area ts m)) (work_left ts) e))

  pub rounds-further : 0 < work_left ts → work_left (round_tasks area ts m) ≢ work_left ts
      → rounds_of (suc n) area ts m ≡ after_round (presented area ts) (rounds_of n area (round_tasks area ts m) (round_monitor area ts m))
  unfolding rounds_of
  rounds-further h d =
      cond-false (eqb (work_left ts) 0) _ _ (ne_eqb (work_left ts) 0 (λ (z : work_left ts ≡ 0). omega (arith, z, h)))
      ∙ ap (after_round (presented area ts)) (cond-false (eqb (work_left (round_tasks area ts m)) (work_left ts)) _ _ (ne_eqb (work_left (round_tasks area ts m)) (work_left ts) d))

-- ---- it ends

-- as many rounds as there is work are enough
pub goes-within : (n : ℕ) (area : List ℕ) (ts : List Task) (m : Monitor) → work_left ts ≤ n → Goes area ts m (rounds_of n area ts m)
unfolding rounds_of
goes-within zero area ts m h = done ts m (no-work ts (omega arith))
goes-within (suc n) area ts m h =
    split (eqb (work_left ts) 0)
    (λ e. let z = eqb-true (work_left ts) 0 e in subst (Goes area ts m) (sym (rounds-done n area ts m z)) (done ts m (no-work ts z)))
    (λ e.
    let some : 0 < work_left ts = above_zero (work_left ts) (eqb-false (work_left ts) 0 e) in
    let after = work_left (round_tasks area ts m) in
    split (eqb after (work_left ts))
    (λ q.
    let z = eqb-true after (work_left ts) q in
    subst (Goes area ts m) (sym (rounds-halted n area ts m some z)) (halted ts m (λ (d : AllDone ts). omega (arith, some, done-no-work ts d)) (same-work area ts m z)))
    (λ q.
    let moved : round_tasks area ts m ≢ ts = λ (w : round_tasks area ts m ≡ ts). eqb-false after (work_left ts) q (ap work_left w) in
    subst (Goes area ts m) (sym (rounds-further n area ts m some (eqb-false after (work_left ts) q)))
    (further ts m _ moved (goes-within n area (round_tasks area ts m) (round_monitor area ts m) (omega (arith, h, less-work area ts m moved))))))

-- "The rehearsal ends when all scripts are done, or after a round that moves nobody"
pub rehearsal-goes : (area : List ℕ) (ts : List Task) (m : Monitor) → Goes area ts m (rehearsal area ts m)
unfolding rehearsal
rehearsal-goes area ts m = goes-within (work_left ts) area ts m (omega arith)

-- it goes in one way only, whatever bound on its rounds is given, if this is no less than the work
pub goes-is : (area : List ℕ) (ts : List Task) (m : Monitor) (r : Rehearsal) → Goes area ts m r → (n : ℕ) → work_left ts ≤ n → rounds_of n area ts m ≡ r
unfolding rounds_of
goes-is area _ _ _ (done ts m d) zero h = refl
goes-is area _ _ _ (done ts m d) (suc n) h = rounds-done n area ts m (done-no-work ts d)
goes-is area _ _ _ (halted ts m w e) zero h = absurd (w (no-work ts (omega arith)))
goes-is area _ _ _ (halted ts m w e) (suc n) h =
    rounds-halted n area ts m (above_zero (work_left ts) (λ (z : work_left ts ≡ 0). w (no-work ts z))) (ap work_left e)
goes-is area _ _ _ (further ts m k d g) zero h = absurd (omega (arith, h, less-work area ts m d))
goes-is area _ _ _ (further ts m k d g) (suc n) h =
    let less = less-work area ts m d in
    rounds-further n area ts m (omega (arith, less)) (λ (z : work_left (round_tasks area ts m) ≡ work_left ts). omega (arith, z, less))
    ∙ ap (after_round (presented area ts)) (goes-is area (round_tasks area ts m) (round_monitor area ts m) k g n (omega (arith, h, less)))

pub rehearsal-only : (area : List ℕ) (ts : List Task) (m : Monitor) (r : Rehearsal) → Goes area ts m r → r ≡ rehearsal area ts m
unfolding rehearsal
rehearsal-only area ts m r g = sym (goes-is area ts m r g (work_left ts) (omega arith))

-- a greater bound changes nothing
pub enough-rounds : (n : ℕ) (area : List ℕ) (ts : List Task) (m : Monitor) → work_left ts ≤ n → rounds_of n area ts m ≡ rehearsal area ts m
enough-rounds n area ts m h = goes-is area ts m (rehearsal area ts m) (rehearsal-goes area ts m) n h

-- ---- how many rounds

-- no more than the bound
rounds-bounded : (n : ℕ) (area : List ℕ) (ts : List Task) (m : Monitor) → (rounds_of n area ts m).rounds ≤ n
unfolding rounds_of
rounds-bounded zero area ts m = omega arith
rounds-bounded (suc n) area ts m =
    split (eqb (work_left ts) 0) (λ e. rw e (omega arith))
    (λ e. rw e (split (eqb (work_left (round_tasks area ts m)) (work_left ts)) (λ q. rw q (omega arith))
    (λ q. rw q (omega (arith, rounds-bounded n area (round_tasks area ts m) (round_monitor area ts m))))))

-- "makes at most as many rounds as the tasks' counts sum to"
pub rounds-at-most : (area : List ℕ) (ts : List Task) (m : Monitor) → (rehearsal area ts m).rounds ≤ work_left ts
unfolding rehearsal
rounds-at-most area ts m = rounds-bounded (work_left ts) area ts m

-- "none if that is 0", and only then
pub no-round-exactly : (area : List ℕ) (ts : List Task) (m : Monitor) → ((rehearsal area ts m).rounds ≡ 0) ↔ (work_left ts ≡ 0)
no-round-exactly area ts m = (none (rehearsal-goes area ts m), λ (z : work_left ts ≡ 0). omega (arith, z, rounds-at-most area ts m))
  where
    none : {r : Rehearsal} → Goes area ts m r → r.rounds ≡ 0 → work_left ts ≡ 0
    none (done ts m d) e = done-no-work ts d
    none (halted ts m w e) z = absurd (omega (arith, z))
    none (further ts m k d g) z = absurd (omega (arith, z))

-- ---- the flat list

rounds-flat : (n : ℕ) (area : List ℕ) (ts : List Task) (m : Monitor) → (rounds_of n area ts m).monitor ≡ after (rounds_of n area ts m).flat m
unfolding rounds_of after
rounds-flat zero area ts m = refl
rounds-flat (suc n) area ts m =
    split (eqb (work_left ts) 0) (λ e. rw e refl)
    (λ e. rw e (split (eqb (work_left (round_tasks area ts m)) (work_left ts))
    (λ q. rw q (round-flat area ts m ∙ sym (after-append (presented area ts) [] m)))
    (λ q. rw q (rounds-flat n area (round_tasks area ts m) (round_monitor area ts m)
    ∙ ap (after (rounds_of n area (round_tasks area ts m) (round_monitor area ts m)).flat) (round-flat area ts m)
    ∙ sym (after-append (presented area ts) (rounds_of n area (round_tasks area ts m) (round_monitor area ts m)).flat m)))))

-- the monitor in the end is that after the flat list of requests presented
pub rehearsal-flat : (area : List ℕ) (ts : List Task) (m : Monitor) → (rehearsal area ts m).monitor ≡ after (rehearsal area ts m).flat m
unfolding rehearsal
rehearsal-flat area ts m = rounds-flat (work_left ts) area ts m

-- "Its final image is the image after the flat list of requests presented"
pub final-image : (area : List ℕ) (ts : List Task) (m : Monitor) → image_of (rehearsal area ts m).monitor ≡ image_of (after (rehearsal area ts m).flat m)
final-image area ts m = ap image_of (rehearsal-flat area ts m)

-- it is one that requests reach, so that what is proved of these holds of it
pub rehearsal-reached : (area : List ℕ) (ts : List Task) (m : Monitor) → Reached m → Reached (rehearsal area ts m).monitor
rehearsal-reached area ts m R = subst Reached (sym (rehearsal-flat area ts m)) (reached-after m R (rehearsal area ts m).flat)
