-- `accesses::release` meets its contract.
-- Assumes nothing.
use mathlib.Core.Path.{refl, sym, ap, ◌∙◌}
use mathlib.Core.Bool.{not}
use Rattle.model.specs.declared.Request.TheVariants.{Release}
use Rattle.model.specs.Modes.{has, remove}
use Rattle.model.specs.Rules.{already}
use Rattle.unit.specs.Stored.{set_held}
use Rattle.kinds.specs.Carried.{stores}
use Rattle.kinds.proofs.Answers.{does-refused, does-granted}
use Rattle.accesses.proofs.release.Goals as goal

pub returns-in-Err : goal.returns-in-Err
returns-in-Err c = does-refused (Release c.args.s c.args.o c.args.x) c.args.unit.now _ _ (sym (c.may_release.ensures c.args.x) ∙ c.in-Err.is) refl

pub returns : goal.returns
unfolding already stores
returns c =
    let held = c.held_by-held.ensures in
    does-granted (Release c.args.s c.args.o c.args.x) c.args.unit.now _ (sym (c.may_release.ensures c.args.x) ∙ c.in_default.is)
    (not c.has.result) (ap not (c.has.ensures ∙ ap (has c.args.x) held)) _ c.done.ensures
    (c.set_held.ensures ∙ ap (set_held c.args.unit.now c.args.o c.args.s) (c.remove.ensures ∙ ap (remove c.args.x) held))
