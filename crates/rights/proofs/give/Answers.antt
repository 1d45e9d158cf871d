-- `rights::give` meets its contract.
-- Assumes nothing.
use mathlib.Core.Path.{refl, sym, ap, ◌∙◌}
use Rattle.model.specs.declared.Request.TheVariants.{Give}
use Rattle.model.specs.Modes.{has, add}
use Rattle.model.specs.Rules.{already}
use Rattle.unit.specs.Stored.{set_rights}
use Rattle.kinds.specs.Carried.{stores}
use Rattle.kinds.proofs.Answers.{does-refused, does-granted}
use Rattle.rights.proofs.give.Goals as goal

pub returns-in-Err : goal.returns-in-Err
returns-in-Err c = does-refused (Give c.args.s c.args.t c.args.o c.args.x) c.args.unit.now _ _ (sym c.may_give.ensures ∙ c.in-Err.is) refl

pub returns : goal.returns
unfolding already stores
returns c =
    let had = c.rights_of-rights.ensures in
    does-granted (Give c.args.s c.args.t c.args.o c.args.x) c.args.unit.now _ (sym c.may_give.ensures ∙ c.in_default.is)
    c.has.result (c.has.ensures ∙ ap (has c.args.x) had) _ c.done.ensures
    (c.set_rights.ensures ∙ ap (set_rights c.args.unit.now c.args.o c.args.t) (c.add-new.ensures ∙ ap (add c.args.x) had))
