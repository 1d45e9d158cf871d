-- `labels::dominates` meets its contract.
-- Assumes nothing.
use mathlib.Core.Path.{◌∙◌, ap}
use Rattle.model.specs.Levels.{equal_or_above, level_dominates, dominates}
use Rattle.labels.proofs.dominates.Goals as goal

pub returns-in-Some-Some : goal.returns-in-Some-Some
unfolding dominates level_dominates
returns-in-Some-Some c = rw (c.in-Some-Some.is-0, c.in-Some-Some.is-1)
    (c.equal_or_above.ensures ∙ ap equal_or_above c.compare.ensures)

pub returns-in_default : goal.returns-in_default
unfolding dominates
returns-in_default c = rw (c.in_default.is-0, c.in_default.is-1)

pub returns-in_default-2 : goal.returns-in_default-2
unfolding dominates
returns-in_default-2 c = rw c.in_default.is-0
