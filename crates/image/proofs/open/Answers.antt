-- `image::open` meets its contract.
-- Assumes nothing.
use mathlib.Core.Path.{sym, ◌∙◌}
use Rattle.model.specs.Reading.{read_image}
use Rattle.std.proofs.lemmas.Result.{IfOk-at_ok}
use Rattle.image.proofs.Answers.{refused, accepted}
use Rattle.image.proofs.open.Goals as goal

pub returns-in-Err : goal.returns-in-Err
unfolding read_image
returns-in-Err c = rw c.refused.ensures.0 (refused _ _ _ _ (sym c.take_image.ensures.answer ∙ c.in-Err.is) c.refused.ensures.1)

pub returns : goal.returns
unfolding read_image
returns c = accepted _ _ _ (sym c.take_image.ensures.answer ∙ c.in_default.is) (IfOk-at_ok _ c.in_default.is c.take_image.ensures.begun)
