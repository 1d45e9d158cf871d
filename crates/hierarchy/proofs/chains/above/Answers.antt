-- `hierarchy::chains::above` meets its contract.
-- Assumes nothing.
use mathlib.Core.Path.{sym, ap, ◌∙◌}
use mathlib.Core.Bool.{Bool, cond}
use Rattle.model.specs.declared.Object.{Object}
use Rattle.model.specs.State.{object_at}
use Rattle.unit.specs.Rows.{objects_in}
use Rattle.hierarchy.specs.Parents.{numbered}
use Rattle.hierarchy.proofs.Upward.{none-beyond}
use Rattle.hierarchy.proofs.chains.above.Goals as goal
use Rattle.hierarchy.proofs.chains.above.Goals.{else-y-lt-OBJECTS-via-then-y-lt-OBJECTS+else-is_live, else-y-lt-OBJECTS-via-else-y-lt-OBJECTS}

pub returns-else-y-lt-OBJECTS : goal.returns-else-y-lt-OBJECTS
returns-else-y-lt-OBJECTS c = let u = c.args.unit.now in
    elim c.else-y-lt-OBJECTS.branch [
      | else-y-lt-OBJECTS-via-then-y-lt-OBJECTS+else-is_live w ↦
          sym (ap (λ (t : Bool). numbered (cond t (object_at (objects_in u) c.args.y).parent 0)) (sym w.is_live.ensures ∙ w.if-is_live.false))
      | else-y-lt-OBJECTS-via-else-y-lt-OBJECTS w ↦ sym (ap (λ (ob : Object). numbered (cond ob.live ob.parent 0)) (none-beyond u c.args.y w.if-y-lt-OBJECTS.false))
    ]
