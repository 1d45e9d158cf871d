-- `capi::loads::circmon_load` meets its contract.
-- Assumes nothing.
use mathlib.Core.Path.{sym, ap, ap₂, ◌∙◌}
use Rattle.model.specs.Decisions.{number}
use Rattle.numbers.specs.Counts.{with_count}
use Rattle.test_load.proofs.Filling.{answer-refused, answer-counted}
use Rattle.capi.proofs.loads.circmon_load.Goals as goal

pub returns-in-Ok : goal.returns-in-Ok
returns-in-Ok c =
    let parts = answer-counted c.args.seed c.args.requests.now _ (sym c.fill.ensures.answer ∙ c.in-Ok.is) in
    (c.with_count.ensures ∙ ap₂ with_count (ap number (sym parts.0)) parts.1, c.fill.ensures.filled)

pub returns-in-Err : goal.returns-in-Err
returns-in-Err c =
    let parts = answer-refused c.args.seed c.args.requests.now _ (sym c.fill.ensures.answer ∙ c.in-Err.is) in
    (c.with_count-in-Err.ensures ∙ ap₂ with_count (c.from.ensures ∙ ap number parts.0) (sym parts.1), c.fill.ensures.filled)
