-- `start_order::search::Gets::first_clash` meets its contract.
-- Assumes nothing.
use Rattle.model.specs.Program.{pieces}
use Rattle.unit.specs.Rows.{state_in}
use Rattle.start_order.proofs.First.{NoneBelow}
use Rattle.start_order.proofs.Searching.{has_partner}
use Rattle.start_order.proofs.search.Gets.first_clash.Given as goal

abbrev pub invariant-loop-i : goal.invariant-loop-i
invariant-loop-i l = NoneBelow (has_partner (state_in l.self.unit.now) (pieces l.self.requests.now)) l.i
