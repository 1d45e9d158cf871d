-- `start_order::alone::list_alone` meets its contract.
-- Assumes nothing.
use Rattle.model.specs.Program.{pieces}
use Rattle.unit.specs.Rows.{state_in}
use Rattle.start_order.proofs.Searching.{Listing}
use Rattle.start_order.proofs.alone.list_alone.Given as goal

abbrev pub invariant-loop-i : goal.invariant-loop-i
invariant-loop-i l = Listing (state_in l.initial.unit) (pieces l.requests) l.initial.unit l.unit l.list l.i
