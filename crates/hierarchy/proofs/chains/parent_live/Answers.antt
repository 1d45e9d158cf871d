-- `hierarchy::chains::parent_live` meets its contract.
-- Assumes nothing.
use native.Mathlib.Omega.{arith}
use mathlib.Core.Path.{sym, ap, ◌∙◌}
use Rattle.model.specs.declared.Object.{Object}
use Rattle.model.specs.Hierarchy.{parent_live}
use Rattle.unit.specs.Rows.{objects_in}
use Rattle.hierarchy.proofs.Upward.{none-beyond, parent-live-at}
use Rattle.hierarchy.proofs.chains.parent_live.Goals as goal

pub returns-then-p-eq0 : goal.returns-then-p-eq0
unfolding parent_live
returns-then-p-eq0 c = rw c.if-p-eq0.true

pub returns-then-p-le-OBJECTS : goal.returns-then-p-le-OBJECTS
returns-then-p-le-OBJECTS c = c.is_live.ensures ∙ sym (parent-live-at (objects_in c.args.unit.now) c.args.p (omega arith))

pub returns : goal.returns
returns c = sym (parent-live-at (objects_in c.args.unit.now) c.args.p (omega arith) ∙ ap (λ (ob : Object). ob.live) (none-beyond c.args.unit.now _ (omega arith)))
