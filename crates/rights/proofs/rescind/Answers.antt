-- `rights::rescind` meets its contract.
-- Assumes nothing.
use mathlib.Core.Path.{refl, sym, ap, ap₂, ◌∙◌}
use mathlib.Core.Bool.{not, ◌&&◌}
use Rattle.model.specs.declared.Request.TheVariants.{Rescind}
use Rattle.model.specs.Modes.{has, remove}
use Rattle.model.specs.Rules.{already, checks}
use Rattle.unit.specs.Stored.{set_rights, set_held}
use Rattle.kinds.specs.Carried.{stores}
use Rattle.kinds.proofs.Answers.{does-refused, does-granted}
use Rattle.rights.proofs.rescind.Goals as goal

pub returns-in-Err : goal.returns-in-Err
unfolding checks
returns-in-Err c = does-refused (Rescind c.args.s c.args.t c.args.o c.args.x) c.args.unit.now _ _ (sym c.may_give.ensures ∙ c.in-Err.is) refl

pub returns : goal.returns
unfolding checks already stores
returns c =
    let x = c.args.x in
    let rights = c.rights_of-rights.ensures in
    let held = c.held_by-held.ensures in
    does-granted (Rescind c.args.s c.args.t c.args.o x) c.args.unit.now _ (sym c.may_give.ensures ∙ c.in_default.is)
    (not c.has.result && not c.has-2.result)
    (ap₂ (λ a b. not a && not b) (c.has.ensures ∙ ap (has x) rights) (c.has-2.ensures ∙ ap (has x) held)) _ c.done.ensures
    (c.set_held.ensures
    ∙ ap₂ (λ w k. set_held w c.args.o c.args.t k)
    (c.set_rights.ensures ∙ ap (set_rights c.args.unit.now c.args.o c.args.t) (c.remove-rights_left.ensures ∙ ap (remove x) rights))
    (c.remove-held_left.ensures ∙ ap (remove x) held))
