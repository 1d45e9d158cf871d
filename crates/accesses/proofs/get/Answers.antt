-- `accesses::get` meets its contract.
-- Assumes nothing.
use mathlib.Core.Path.{sym, ap, ap₂, ◌∙◌}
use Rattle.model.specs.Modes.{has, add}
use Rattle.model.specs.Rules.{already}
use Rattle.unit.specs.Stored.{set_held}
use Rattle.kinds.specs.Carried.{stores}
use Rattle.kinds.proofs.Answers.{get-refused, get-put-back, get-done}
use Rattle.kinds.proofs.Effects.{held_back}
use Rattle.accesses.proofs.get.Goals as goal

pub returns-in-Err : goal.returns-in-Err
returns-in-Err c = get-refused c.args.unit.now c.told-unit c.args.s c.args.o c.args.x c.requires _ (sym c.may_get.ensures ∙ c.in-Err.is)

pub returns-in-Err-access_fits : goal.returns-in-Err-access_fits
unfolding stores
returns-in-Err-access_fits c =
    let u = c.args.unit.now in
    let had = c.held_by-had.ensures in
    get-put-back u c.told-unit c.args.s c.args.o c.args.x c.requires (sym c.may_get.ensures ∙ c.in_default.is) c.set_held.new.unit
    (c.set_held.ensures ∙ ap (set_held u c.args.o c.args.s) (c.add-new.ensures ∙ ap (add c.args.x) had))
    _ (sym c.access_fits.ensures ∙ c.in-Err-access_fits.is) _
    (c.set_held-in-Err-access_fits.ensures ∙ ap₂ (λ w k. set_held w c.args.o c.args.s k) c.set_held.ensures had ∙ held_back u c.told-unit c.args.o c.requires.1 c.args.s _)

pub returns : goal.returns
unfolding stores already
returns c =
    let u = c.args.unit.now in
    let had = c.held_by-had.ensures in
    get-done u c.told-unit c.args.s c.args.o c.args.x c.requires (sym c.may_get.ensures ∙ c.in_default.is) c.set_held.new.unit
    (c.set_held.ensures ∙ ap (set_held u c.args.o c.args.s) (c.add-new.ensures ∙ ap (add c.args.x) had))
    (sym c.access_fits.ensures ∙ c.in_default-access_fits.is) _ (c.has.ensures ∙ ap (has c.args.x) had) _ c.done.ensures
