-- `start_order::search::Gets::partner` meets its contract.
-- Assumes nothing.
use Rattle.model.specs.Program.{pieces}
use Rattle.unit.specs.Rows.{state_in}
use Rattle.start_order.proofs.First.{NoneBelow}
use Rattle.start_order.proofs.Searching.{is_partner}
use Rattle.start_order.proofs.search.Gets.partner.Given as goal

abbrev pub invariant-loop-j : goal.invariant-loop-j
invariant-loop-j l = NoneBelow (is_partner (state_in l.self.unit.now) (pieces l.self.requests.now) l.i) l.j
