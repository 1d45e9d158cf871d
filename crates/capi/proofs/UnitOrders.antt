-- Lists asked of a unit in any order: gives and releases, and gets where `circmon_clash` says that the order does not matter.
-- Assumes nothing.
use Prim.Native.Nat.{ℕ, ◌<◌, ◌≤◌}
use mathlib.Core.Path.{◌≡◌, sym, ap, ◌∙◌, subst, subst₂}
use mathlib.Core.Logic.{◌↔◌}
use mathlib.Core.List.{List, [], ◌++◌, map}
use lib.ListN.{length, get_or}
use Rattle.model.specs.Runs.{reply, after, replies}
use Rattle.model.specs.Journal.{Act, asks}
use Rattle.model.specs.Writing.{written}
use Rattle.model.specs.Program.{pieces}
use Rattle.model.specs.Beginnings.{Beginning, Accepted, left}
use Rattle.images.proofs.Reached.{reached-left, left-more}
use Rattle.orders.specs.Orders.{OrderOf, Each, StandsIn}
use Rattle.request_orders.specs.AnyOrder.{AnyOrder}
use Rattle.request_orders.specs.RightsLists.{NothingElse}
use Rattle.request_orders.proofs.StartOrder.{gets-agree-grants}
use Rattle.request_orders.proofs.RightsLists.{rights-any-order, rights-refused-alone}
use Rattle.request_orders.proofs.RightsAgain.{rights-again}
use Rattle.unit.specs.Rows.{state_in}
use Rattle.unit.specs.Stored.{unit_of}
use Rattle.journaled.specs.Units.{monitor_part}
use Rattle.journaled.proofs.Parts.{monitor-says}
use Rattle.start_order.specs.declared.StartOrder.TheVariants.{Agree}
use Rattle.start_order.specs.Answers.{start_order}
use Rattle.numbers.specs.Orders.{order_number, answer_in}
use Rattle.capi.specs.UnitRuns.{unit_after, unit_asked, unit_replies, saved}
use Rattle.capi.specs.UnitOrders.{UnitOrders}
use Rattle.capi.proofs.UnitRuns.{asked-unit, further-replies, asked-rows}
use Rattle.capi.proofs.StartOrders.{unit-orders}

-- a unit that was started or opened with 0, then asked and taken back in any order
module _ (b : Beginning) (e : Accepted b) (qs : List Act) where
  reply-at : (further : List (List ℕ)) (i : ℕ) → get_or (unit_replies further (unit_after b qs)) i 2 ≡ get_or (replies further (left b qs)) i 2
  reply-at further i = ap (λ (l : List ℕ). get_or l i 2) (further-replies b qs further)

  -- what is so of the state in any order is so of the unit
  in-any-order : (bs : List (List ℕ)) → AnyOrder bs (left b qs) → UnitOrders (unit_after b qs) bs
  in-any-order bs A =
      record {
        units = λ cs ds c d. asked-rows b qs cs ∙ ap unit_of (A.states cs ds c d) ∙ sym (asked-rows b qs ds);
        grants = λ cs ds c d i j h k w.
            subst₂ (λ (m n : ℕ). (m < 2) ↔ (n < 2)) (sym (reply-at cs i)) (sym (reply-at ds j)) (A.grants cs ds c d i j h k w);
      }

  -- gives, releases and malformed bytes
  module _ (bs : List (List ℕ)) (p : Each (NothingElse (left b qs).profile) bs) where
    pub unit-rights : UnitOrders (unit_after b qs) bs
    unit-rights = in-any-order bs (rights-any-order (left b qs) (reached-left b e qs) bs p)

    -- in full: the same bytes, at whatever places of two orders, are granted in both or refused in both
    pub unit-grants : (cs ds : List (List ℕ)) → OrderOf bs cs → OrderOf bs ds → (i j : ℕ) → i < length cs → j < length ds → get_or cs i [] ≡ get_or ds j []
        → (get_or (unit_replies cs (unit_after b qs)) i 2 < 2) ↔ (get_or (unit_replies ds (unit_after b qs)) j 2 < 2)
    unit-grants = unit-rights.grants

    -- the images saved are equal
    pub saved-equal : (cs ds : List (List ℕ)) → OrderOf bs cs → OrderOf bs ds → (buffer : List ℕ)
        → saved (unit_asked cs (unit_after b qs)) buffer ≡ saved (unit_asked ds (unit_after b qs)) buffer
    saved-equal cs ds c d buffer =
        ap (λ m. written m buffer)
        (sym (monitor-says (unit_asked cs (unit_after b qs))) ∙ ap state_in (unit-rights.units cs ds c d) ∙ monitor-says (unit_asked ds (unit_after b qs)))

    -- one that is refused gets the number that it gets if it came alone
    pub unit-refusals : (cs : List (List ℕ)) → OrderOf bs cs → (i : ℕ) → i < length cs → 2 ≤ get_or (unit_replies cs (unit_after b qs)) i 2
        → get_or (unit_replies cs (unit_after b qs)) i 2 ≡ reply (get_or cs i []) (left b qs)
    unit-refusals cs c i h n =
        reply-at cs i
        ∙ rights-refused-alone (left b qs) (reached-left b e qs) bs p cs c i h (subst (λ (k : ℕ). 2 ≤ k) (reply-at cs i) n)

    -- and what comes again directly behind it changes nothing
    pub unit-again : (cs : List (List ℕ)) → Each (λ c. StandsIn c bs) cs
        → monitor_part (unit_asked cs (unit_asked bs (unit_after b qs))) ≡ monitor_part (unit_asked bs (unit_after b qs))
    unit-again cs w =
        ap (λ u. monitor_part (unit_asked cs u)) (asked-unit b qs bs) ∙ asked-rows b (qs ++ map asks bs) cs
        ∙ ap (λ m. unit_of (after cs m)) (left-more b qs bs) ∙ ap unit_of (rights-again (left b qs) (reached-left b e qs) bs p cs w) ∙ sym (asked-rows b qs bs)

  -- gets, where `circmon_clash` says that their order does not matter
  pub unit-gets : (requests : List ℕ) → answer_in (order_number (start_order (pieces requests) (state_in (unit_after b qs)))) ≡ Agree
      → UnitOrders (unit_after b qs) (pieces requests)
  unit-gets requests h =
      let M = (unit-orders b e qs requests Agree).0 h in
      in-any-order (pieces requests) (gets-agree-grants (left b qs) (reached-left b e qs) (pieces requests) M.1 M.2)
