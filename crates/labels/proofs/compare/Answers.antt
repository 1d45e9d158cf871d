-- `labels::compare` meets its contract.
-- Assumes nothing.
use mathlib.Core.Path.{◌∙◌, ap₂}
use Rattle.model.specs.Levels.{answered, compare}
use Rattle.labels.proofs.compare.Goals as goal

pub returns : goal.returns
unfolding compare
returns c = c.answered.ensures ∙ ap₂ answered c.at_least.ensures c.at_least-2.ensures
