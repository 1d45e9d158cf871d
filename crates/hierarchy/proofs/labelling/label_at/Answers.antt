-- `hierarchy::labelling::label_at` meets its contract.
-- Assumes nothing.
use mathlib.Core.Path.{sym, ap}
use Rattle.model.specs.declared.Object.{Object}
use Rattle.hierarchy.proofs.Upward.{none-beyond}
use Rattle.hierarchy.proofs.labelling.label_at.Goals as goal

pub returns-else-y-lt-OBJECTS : goal.returns-else-y-lt-OBJECTS
returns-else-y-lt-OBJECTS c = sym (ap (λ (ob : Object). ob.label) (none-beyond c.args.unit.now c.args.y c.if-y-lt-OBJECTS.false))
