-- `objects::delete` meets its contract.
-- Assumes nothing.
use mathlib.Core.Path.{◌≡◌, refl, sym, ap, ◌∙◌}
use mathlib.Core.Bool.{Bool, true, false}
use Prim.Native.Nat.{ℕ}
use Rattle.model.specs.declared.Monitor.{Monitor}
use Rattle.model.specs.declared.Decision.{Decision}
use Rattle.model.specs.declared.Decision.TheVariants.{NotEnrolled, NotLive}
use Rattle.model.specs.declared.Request.TheVariants.{Delete}
use Rattle.model.specs.Tests.{unless}
use Rattle.model.specs.State.{enrolled, object}
use Rattle.model.specs.Decisions.{refuses}
use Rattle.model.specs.Rules.{already, checks}
use Rattle.model.proofs.Tests.{split, apart, stop}
use Rattle.unit.specs.Rows.{state_in}
use Rattle.kinds.specs.Carried.{stores}
use Rattle.model.proofs.Checked.{passes}
use Rattle.kinds.proofs.Answers.{does-refused, does-granted}
use Rattle.objects.proofs.delete.Goals as goal

refused-both : (b : Bool) → refuses (unless b NotEnrolled NotLive) ≡ true
unfolding unless
refused-both true = refl
refused-both false = refl

deleted-live : (s o : ℕ) (m : Monitor) → refuses (checks (Delete s o) m) ≡ false → (object m o).live ≡ true
unfolding checks
deleted-live s o m e =
    split (object m o).live (λ t. t)
    (λ f. apart (ap (λ (d : Decision). refuses (unless (enrolled m s) NotEnrolled d)) (stop _ NotLive _ f) ∙ refused-both (enrolled m s)) e)

pub returns-in-Err : goal.returns-in-Err
returns-in-Err c = does-refused (Delete c.args.s c.args.o) c.args.unit.now _ _ (sym c.by_owner.ensures ∙ c.in-Err.is) refl

pub remove-requires : goal.remove-requires
remove-requires c = record {
  o_lt_object_count = (c.requires.1, deleted-live c.args.s c.args.o (state_in c.args.unit.now) (passes _ (sym c.by_owner.ensures ∙ c.in_default.is)));
}

pub returns : goal.returns
unfolding already stores
returns c = does-granted (Delete c.args.s c.args.o) c.args.unit.now _ (sym c.by_owner.ensures ∙ c.in_default.is) false refl _ refl c.remove.ensures
