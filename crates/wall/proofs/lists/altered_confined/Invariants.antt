-- `wall::lists::altered_confined` meets its contract.
-- Assumes nothing.
use mathlib.Core.Path.{◌≡◌}
use Rattle.model.specs.State.{object_at}
use Rattle.unit.specs.Rows.{objects_in}
use Rattle.wall.specs.Joined.{confined_to}
use Rattle.wall.specs.Lists.{numbers_at, altered_at}
use Rattle.wall.proofs.lists.altered_confined.Given as goal

abbrev pub invariant-loop-o : goal.invariant-loop-o
invariant-loop-o l = let at = object_at (objects_in l.unit) in
    l.kept ≡ confined_to l.o-index (altered_at l.s at l.list) l.read (numbers_at at l.list)
