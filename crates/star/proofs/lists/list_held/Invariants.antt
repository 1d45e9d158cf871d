-- `star::lists::list_held` meets its contract.
-- Assumes nothing.
use Rattle.model.specs.State.{object_at}
use Rattle.unit.specs.Rows.{objects_in}
use Rattle.star.specs.Lists.{read_by, altered_by, out_of}
use Rattle.star.proofs.Listed.{Counted}
use Rattle.star.proofs.lists.list_held.Given as goal

abbrev pub invariant-loop-o : goal.invariant-loop-o
invariant-loop-o l = let at = object_at (objects_in l.unit) in
    Counted (read_by l.s at) (out_of l.busy) l.read l.r l.o-index × Counted (altered_by l.s at) (out_of l.busy) l.altered l.a l.o-index
