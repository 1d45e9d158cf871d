-- `capi::circmon_request` meets its contract.
-- Assumes nothing.
use mathlib.Core.Path.{sym, ap, ◌∙◌}
use Rattle.model.specs.Decisions.{number}
use Rattle.model.proofs.Checked.{refusal, passes}
use Rattle.capi.proofs.Boundary.{request-refused, request-carried}
use Rattle.capi.proofs.circmon_request.Goals as goal

pub returns-in-Err : goal.returns-in-Err
returns-in-Err c =
    let r = refusal _ _ (sym c.open_widest.ensures.0 ∙ c.in-Err.is) in
    request-refused _ _ r.0 _ (c.from.ensures ∙ ap number r.1)

pub returns : goal.returns
returns c =
    request-carried _ _ (passes _ (sym c.open_widest.ensures.0 ∙ c.in_default.is)) _ c.open_widest.ensures.1 _ (c.from-reply.ensures ∙ c.ask.ensures.0) _ c.ask.ensures.1 _ c.save.ensures.1
