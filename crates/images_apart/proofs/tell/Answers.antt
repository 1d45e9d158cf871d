-- `images_apart::tell` meets its contract: one image is refused, or the two states are told apart.
-- Assumes nothing.
use mathlib.Core.Path.{sym, ap, ◌∙◌}
use Rattle.model.specs.Decisions.{number}
use Rattle.model.proofs.Checked.{refusal, passes}
use Rattle.images_apart.proofs.Answers.{opened-says, first-refused, second-refused, told-apart}
use Rattle.images_apart.proofs.tell.Goals as goal

pub returns-in-Err : goal.returns-in-Err
returns-in-Err c =
    let r = refusal _ _ (sym c.open.ensures.0 ∙ c.in-Err.is) in
    first-refused c.args.profile c.args.a.now c.args.b.now c.args.requests.now r.0 _ (c.from.ensures ∙ ap number r.1)

pub returns-in-Err-open : goal.returns-in-Err-open
returns-in-Err-open c =
    let passed = passes _ (sym c.open.ensures.0 ∙ c.in_default.is) in
    let r = refusal _ _ (sym c.open-2.ensures.0 ∙ c.in-Err-open.is) in
    second-refused c.args.profile c.args.a.now c.args.b.now c.args.requests.now passed r.0 _ (c.from-in-Err-open.ensures ∙ ap number r.1)

pub returns : goal.returns
returns c =
    let args = c.args in
    told-apart args.profile args.a.now args.b.now args.requests.now (passes _ (sym c.open.ensures.0 ∙ c.in_default.is)) (passes _ (sym c.open-2.ensures.0 ∙ c.in_default-open.is))
    _ _ (opened-says args.profile args.a.now _ c.open.ensures.1) (opened-says args.profile args.b.now _ c.open-2.ensures.1)
    _ c.distinguish.ensures.0 _ c.distinguish.ensures.1
