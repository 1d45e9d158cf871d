-- `star::nothing_held` meets its contract: the sets below the index are looked at.
-- Assumes nothing.
use mathlib.Core.Path.{◌≡◌}
use Rattle.model.specs.Tests.{all_below}
use Rattle.star.specs.Idle.{free}
use Rattle.star.proofs.nothing_held.Given as goal

abbrev pub invariant-loop-modes : goal.invariant-loop-modes
invariant-loop-modes l = l.free ≡ all_below l.modes-index (free l.fn.row)
