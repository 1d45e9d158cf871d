-- `hierarchy::labelling::keeps_rule` meets its contract.
-- Assumes nothing.
use native.Mathlib.Omega.{arith}
use mathlib.Core.Path.{sym, ap, ap₂, ◌∙◌}
use Prim.Native.Nat.{ℕ, ◌-◌}
use Rattle.model.specs.Tests.{implies}
use Rattle.model.specs.Levels.{present, dominates}
use Rattle.model.specs.Hierarchy.{label_under}
use Rattle.model.specs.State.{object_at}
use Rattle.unit.specs.Rows.{objects_in}
use Rattle.hierarchy.proofs.Upward.{label-under-at}
use Rattle.hierarchy.proofs.labelling.keeps_rule.Goals as goal

pub returns-then-p-eq0 : goal.returns-then-p-eq0
unfolding label_under
returns-then-p-eq0 c = rw (sym c.parent_of-p.ensures, c.if-p-eq0.true)

pub returns : goal.returns
returns c = let l = objects_in c.args.unit.now in
    let a = c.label_of-label.ensures in
    let p = c.parent_of-p.ensures in
    let b = c.label_at.ensures ∙ ap (λ (k : ℕ). (object_at l (k - 1)).label) p in
    c.implies.ensures
    ∙ ap₂ implies (c.is_present.ensures ∙ ap present a) (c.dominates.ensures ∙ ap₂ dominates a b)
    ∙ sym (label-under-at l (object_at l c.args.o).label (object_at l c.args.o).parent (omega (arith, p)))
