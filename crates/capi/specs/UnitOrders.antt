-- A list of byte strings asked of a unit in any order.
-- Assumes nothing.
use Rattle.std.specs.Prelude.{ℕ, ◌<◌, ◌≡◌, ◌↔◌, List, [], length, get_or}
use Rattle.unit.specs.Rows.{Rows}
use Rattle.orders.specs.Orders.{OrderOf}
use Rattle.journaled.specs.Units.{monitor_part}
use Rattle.capi.specs.UnitRuns.{unit_asked, unit_replies}

-- "Any two orders of one list .. must leave equal states, and each .. must be granted in both or refused in both": of a unit, in which every byte
-- of the monitor is the same in the end, with the replies of `circmon_ask`; "orders .. are compared without the journal"
pub record UnitOrders (u : Rows) (bs : List (List ℕ)) : Type 0 where
  pub units : (cs ds : List (List ℕ)) → OrderOf bs cs → OrderOf bs ds → monitor_part (unit_asked cs u) ≡ monitor_part (unit_asked ds u)
  pub grants : (cs ds : List (List ℕ)) → OrderOf bs cs → OrderOf bs ds → (i j : ℕ) → i < length cs → j < length ds
      → get_or cs i [] ≡ get_or ds j [] → (get_or (unit_replies cs u) i 2 < 2) ↔ (get_or (unit_replies ds u) j 2 < 2)
