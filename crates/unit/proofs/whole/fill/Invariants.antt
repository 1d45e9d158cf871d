-- `unit::whole::fill` meets its contract.
-- Assumes nothing.
use Rattle.unit.specs.Stored.{ObjectsStored}
use Rattle.unit.proofs.Units.{SubjectsStored}
use Rattle.unit.proofs.whole.fill.Given as goal

abbrev pub invariant-loop-o : goal.invariant-loop-o
invariant-loop-o l = ObjectsStored l.m.objects l.unit l.o

abbrev pub invariant-loop-s : goal.invariant-loop-s
invariant-loop-s l = SubjectsStored l.m l.unit l.s
