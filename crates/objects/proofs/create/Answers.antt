-- `objects::create` meets its contract.
-- Assumes nothing.
use mathlib.Core.Path.{refl, sym, ◌∙◌}
use mathlib.Core.Bool.{false}
use Rattle.model.specs.declared.Request.TheVariants.{Create}
use Rattle.model.specs.Rules.{already}
use Rattle.unit.specs.Stored.{set_object}
use Rattle.kinds.specs.Carried.{stores}
use Rattle.kinds.proofs.Answers.{does-refused, does-granted}
use Rattle.objects.proofs.create.Goals as goal

pub returns-in-Err : goal.returns-in-Err
returns-in-Err c = does-refused (Create c.args.s c.args.o c.args.how) c.args.unit.now _ _ (sym c.may_create.ensures ∙ c.in-Err.is) refl

pub returns : goal.returns
unfolding already stores set_object
returns c = does-granted (Create c.args.s c.args.o c.args.how) c.args.unit.now _ (sym c.may_create.ensures ∙ c.in_default.is) false refl _ refl
    (rw (c.set_rows.ensures, c.row_of-rest.ensures, c.owner_rights.ensures))
