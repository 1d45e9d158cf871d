-- `page_sets::mark` meets its contract.
-- Assumes nothing.
use mathlib.Core.Path.{sym, ◌∙◌}
use Rattle.model.proofs.Tests.{cond-true, cond-false}
use Rattle.page_sets.specs.Sets.{mark, dash}
use Rattle.page_sets.proofs.mark.Goals as goal

pub returns-then-has : goal.returns-then-has
unfolding mark
returns-then-has c = c.letter.ensures ∙ sym (cond-true _ _ dash (sym c.has.ensures ∙ c.if-has.true))

pub returns-else-has : goal.returns-else-has
unfolding mark
returns-else-has c = sym (cond-false _ _ _ (sym c.has.ensures ∙ c.if-has.false))
