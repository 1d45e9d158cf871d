-- `labels::not_lowered` meets its contract.
-- Assumes nothing.
use mathlib.Core.Path.{ap₂, ◌∙◌}
use Rattle.model.specs.Tests.{implies}
use Rattle.model.specs.Rules.{not_lowered}
use Rattle.labels.proofs.not_lowered.Goals as goal

pub returns : goal.returns
unfolding not_lowered
returns c = c.implies.ensures ∙ ap₂ implies c.is_present.ensures c.dominates.ensures
