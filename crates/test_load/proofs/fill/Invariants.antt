-- `test_load::fill` meets its contract.
-- Assumes nothing.
use Rattle.test_load.proofs.Filling.{Filling}
use Rattle.test_load.proofs.fill.Given as goal

abbrev pub invariant-loop-i : goal.invariant-loop-i
invariant-loop-i l = Filling l.seed l.initial.out l.count l.out l.generator.state l.i
