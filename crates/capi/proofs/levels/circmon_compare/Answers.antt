-- `capi::circmon_compare` meets its contract.
-- Assumes nothing.
use mathlib.Core.Path.{◌∙◌, ap}
use Rattle.numbers.specs.Comparing.{comparison_number}
use Rattle.capi.specs.Comparing.{compared}
use Rattle.capi.proofs.levels.circmon_compare.Goals as goal

pub returns : goal.returns
unfolding compared
returns c = c.comparison_number.ensures ∙ ap comparison_number c.compare.ensures
