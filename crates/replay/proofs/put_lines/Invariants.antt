-- `replay::put_lines` meets its contract.
-- Assumes nothing.
use Rattle.replay.proofs.Putting.{Lining}
use Rattle.replay.proofs.put_lines.Given as goal

abbrev pub invariant-loop-n : goal.invariant-loop-n
invariant-loop-n l = Lining l.initial.out l.numbers l.out l.at l.n-index
