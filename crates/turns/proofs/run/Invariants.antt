-- `turns::run` meets its contract.
-- Assumes nothing.
use Rattle.turns.proofs.Runs.{Looping}
use Rattle.turns.proofs.run.Given as goal

abbrev pub invariant-loop-i : goal.invariant-loop-i
invariant-loop-i l = Looping l.requests l.initial.out l.initial.unit l.count l.out l.unit l.i
