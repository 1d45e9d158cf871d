-- `start_order::search::first_other` meets its contract.
-- Assumes nothing.
use Rattle.model.specs.Program.{pieces}
use Rattle.start_order.proofs.First.{NoneBelow}
use Rattle.start_order.proofs.Searching.{is_other}
use Rattle.start_order.proofs.search.first_other.Given as goal

abbrev pub invariant-loop-i : goal.invariant-loop-i
invariant-loop-i l = NoneBelow (is_other l.p (pieces l.requests)) l.i
