-- "restores exactly the state before the latest request still in the journal" (change request §9), after any list of requests and takings-back: what the
-- records of a journal restore are the states of a history that keeps them whole.
-- Assumes nothing.
use Prim.Native.Nat.{ℕ, zero, suc}
use native.Mathlib.Omega.{arith}
use mathlib.Core.Path.{◌≡◌, refl, sym, ap, ◌∙◌}
use mathlib.Core.Logic.{◌↔◌, ◌≢◌}
use mathlib.Core.Bool.{Bool, false, ◌&&◌}
use mathlib.Core.List.{List, [], ◌∷◌}
use lib.ListN.{length, take}
use lib.Dec.{eqb}
use borrow.Author.Tests.{eq-eqb, ne_eqb}
use Rattle.model.specs.declared.Monitor.{Monitor}
use Rattle.model.specs.State.{with_object}
use Rattle.model.specs.Runs.{reply}
use Rattle.model.specs.Journal.{Entry, Journaled, journal_size, entered, without_entries, ask, restored, take_back, Act, asks, takes_back, answer_to, acted}
use Rattle.model.proofs.Tests.{cond-true, cond-false}
use Rattle.model.specs.Requests.{decode}
use Rattle.invariants.specs.TakingBack.{said_to_take, took_children, History, remembered, returned, history}
use Rattle.invariants.proofs.TakingBack.{ask-cases, back-17-exactly}

-- the states that takings-back lead to, one after the other
undone : Monitor → List Entry → List Monitor
undone m [] = []
undone m (e ∷ journal) = with_object m e.place e.was ∷ undone (with_object m e.place e.was) journal

undone-take : (k : ℕ) (m : Monitor) (journal : List Entry) → undone m (take k journal) ≡ take k (undone m journal)
unfolding undone
undone-take zero m journal = refl
undone-take (suc k) m [] = refl
undone-take (suc k) m (e ∷ journal) = ap (λ (l : List Monitor). with_object m e.place e.was ∷ l) (undone-take k (with_object m e.place e.was) journal)

-- the history of a monitor with its journal
as_history : Journaled → History
as_history j = record { present = j.monitor; past = undone j.monitor j.journal }

remembered-asked : (b : List ℕ) (j : Journaled) → remembered b j.monitor (undone j.monitor j.journal) ≡ undone (ask b j).monitor (ask b j).journal
unfolding undone entered took_children
remembered-asked b j =
    ask-cases b j
    (λ z none E. cond-false (took_children b j.monitor) _ _ none ∙ cond-true (eqb (reply b j.monitor) 0) _ _ (eq-eqb _ 0 z)
    ∙ ap (take journal_size) (sym (ap (λ (n : Monitor). n ∷ undone n j.journal) E.restores))
    ∙ sym (ap (undone (ask b j).monitor) E.journal ∙ undone-take journal_size (ask b j).monitor (E.entry ∷ j.journal)))
    (λ z took e. cond-true (took_children b j.monitor) _ _ took ∙ sym (ap (undone (ask b j).monitor) e))
    (λ n e. cond-false (took_children b j.monitor) _ _ (none-took n) ∙ cond-false (eqb (reply b j.monitor) 0) _ _ (ne_eqb _ 0 n)
    ∙ sym (ap (λ (x : Journaled). undone x.monitor x.journal) e))
  where
    none-took : reply b j.monitor ≢ 0 → took_children b j.monitor ≡ false
    none-took n = ap (λ (x : Bool). x && said_to_take (decode j.monitor.profile b) j.monitor) (ne_eqb _ 0 n)

returned-restored : (m : Monitor) (journal : List Entry) → returned m (undone m journal) ≡ as_history (restored m journal)
unfolding undone as_history restored
returned-restored m [] = refl
returned-restored m (e ∷ journal) = refl

history-acted : (l : List Act) (j : Journaled) → history l (as_history j) ≡ as_history (acted l j)
unfolding history acted as_history ask take_back
history-acted [] j = refl
history-acted (asks b ∷ l) j =
    ap (λ (past : List Monitor). history l (record { present = (ask b j).monitor; past = past })) (remembered-asked b j) ∙ history-acted l (ask b j)
history-acted (takes_back ∷ l) j = ap (history l) (returned-restored j.monitor j.journal) ∙ history-acted l (take_back j)

module _ (l : List Act) (m : Monitor) where
  -- after any list the state is that of the history
  pub history-present : (acted l (without_entries m)).monitor ≡ (history l (record { present = m; past = [] })).present
  unfolding as_history undone
  history-present = sym (ap (λ (h : History). h.present) (history-acted l (without_entries m)))

  -- and the next taking-back returns 17 exactly where the history has no state to go back to
  pub history-17 : (answer_to takes_back (acted l (without_entries m)) ≡ 17) ↔ ((history l (record { present = m; past = [] })).past ≡ [])
  unfolding as_history undone
  history-17 =
      let j = acted l (without_entries m) in
      let past = ap (λ (h : History). h.past) (history-acted l (without_entries m)) in
      let empty = back-17-exactly j in (
        λ e. past ∙ ap (undone j.monitor) (empty.0 e),
        λ e. empty.1 (none j.monitor j.journal (sym past ∙ e)),
      )
    where
      none : (n : Monitor) (journal : List Entry) → undone n journal ≡ [] → journal ≡ []
      none n [] e = refl
      none n (x ∷ journal) e = absurd (omega (arith, ap length e))
