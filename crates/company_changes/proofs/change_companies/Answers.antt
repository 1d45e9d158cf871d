-- `company_changes::change_companies` meets its contract.
-- Assumes nothing.
use Prim.Native.Nat.{ℕ}
use mathlib.Core.Path.{sym, ap, ap₂, ◌∙◌}
use mathlib.Core.Bool.{not}
use lib.Dec.{eqb}
use lib.ListN.{set as put}
use Rattle.model.specs.Rules.{already}
use Rattle.model.proofs.Tests.{not_on, not-off}
use Rattle.unit.specs.Rows.{rest_row}
use Rattle.unit.proofs.Stores.{rest-put-back}
use Rattle.wall.proofs.Between.{wall-all}
use Rattle.kinds.specs.Carried.{stores}
use Rattle.kinds.proofs.Answers.{companies-refused, companies-put-back, companies-done}
use Rattle.company_changes.proofs.change_companies.Goals as goal

pub returns-in-Err : goal.returns-in-Err
returns-in-Err c = companies-refused c.args.unit.now c.told-unit c.args.s c.args.o c.args.companies c.requires.1 _ (sym c.by_owner.ensures ∙ c.in-Err.is)

pub returns-then-breaks_wall : goal.returns-then-breaks_wall
unfolding stores
returns-then-breaks_wall c =
    let stored = c.set_companies.ensures in
    companies-put-back c.args.unit.now c.told-unit c.args.s c.args.o c.args.companies c.requires.1 (sym c.by_owner.ensures ∙ c.in_default.is) c.set_companies.new.unit stored
    (not_on _ (sym (c.breaks_wall.ensures ∙ ap not (wall-all _)) ∙ c.if-breaks_wall.true)) _
    (c.set_rest.ensures
    ∙ ap₂ (λ w row. put w (rest_row c.args.o) row) stored c.rest_of-rest.ensures
    ∙ rest-put-back c.args.unit.now c.told-unit c.args.o c.requires.1 _)

pub returns : goal.returns
unfolding stores already
returns c =
    companies-done c.args.unit.now c.told-unit c.args.s c.args.o c.args.companies c.requires.1 (sym c.by_owner.ensures ∙ c.in_default.is) c.set_companies.new.unit c.set_companies.ensures
    (not-off _ (sym (c.breaks_wall.ensures ∙ ap not (wall-all _)) ∙ c.if-breaks_wall.false)) _
    (ap (λ (k : ℕ). eqb k c.args.companies) c.companies_of-old.ensures) _ c.done.ensures
