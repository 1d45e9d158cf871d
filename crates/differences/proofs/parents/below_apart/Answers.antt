-- No object has a number from 64 on.
-- Assumes nothing.
use native.Mathlib.Omega.{arith}
use Rattle.model.specs.State.{no_object}
use Rattle.model.proofs.Tests.{beyond}
use Rattle.unit.specs.Rows.{object_in, objects_in}
use Rattle.unit.proofs.Tabulated.{tabulate-length}
use Rattle.telling.specs.Distinguish.{by_below}
use Rattle.differences.proofs.parents.below_apart.Goals as goal

pub returns-then-from-ge-OBJECTS : goal.returns-then-from-ge-OBJECTS
unfolding by_below
returns-then-from-ge-OBJECTS c = let args = c.args in
    rw (beyond (objects_in args.a.now) args.x no_object (omega (arith, c.if-from-ge-OBJECTS.true, tabulate-length 64 (object_in args.a.now))))
