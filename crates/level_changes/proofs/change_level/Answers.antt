-- `level_changes::change_level` meets its contract.
-- Assumes nothing.
use mathlib.Core.Path.{sym, ap, ap₂, ◌∙◌}
use lib.ListN.{set}
use Rattle.std.specs.Prelude.{Some}
use Rattle.model.specs.Levels.{Label, same_label}
use Rattle.model.specs.Rules.{not_lowered, already}
use Rattle.unit.specs.Rows.{rest_row}
use Rattle.unit.proofs.Stores.{rest-put-back}
use Rattle.kinds.specs.Carried.{stores}
use Rattle.kinds.proofs.Answers.{level-refused, level-lowered, level-put-back, level-done}
use Rattle.level_changes.proofs.change_level.Goals as goal

pub returns-in-Err : goal.returns-in-Err
returns-in-Err c = level-refused c.args.unit.now c.told-unit c.args.s c.args.o c.args.level c.requires.1 _ (sym c.by_owner.ensures ∙ c.in-Err.is)

pub returns-then-not-not_lowered : goal.returns-then-not-not_lowered
returns-then-not-not_lowered c =
    let raised_is = c.not_lowered.ensures ∙ ap (λ (k : Label). not_lowered k (Some c.args.level)) c.label_of-label.ensures in
    level-lowered c.args.unit.now c.told-unit c.args.s c.args.o c.args.level c.requires.1 (sym c.by_owner.ensures ∙ c.in_default.is) (sym raised_is ∙ c.if-not-not_lowered.true)

pub returns-in-Err-label_fits : goal.returns-in-Err-label_fits
unfolding stores
returns-in-Err-label_fits c =
    let raised_is = c.not_lowered.ensures ∙ ap (λ (k : Label). not_lowered k (Some c.args.level)) c.label_of-label.ensures in
    level-put-back c.args.unit.now c.told-unit c.args.s c.args.o c.args.level c.requires.1 (sym c.by_owner.ensures ∙ c.in_default.is)
    (sym raised_is ∙ c.if-not-not_lowered.false) c.set_label.new.unit c.set_label.ensures _ (sym c.label_fits.ensures ∙ c.in-Err-label_fits.is) _
    (c.set_rest.ensures
    ∙ ap₂ (λ w row. set w (rest_row c.args.o) row) c.set_label.ensures c.rest_of-rest.ensures
    ∙ rest-put-back c.args.unit.now c.told-unit c.args.o c.requires.1 _)

pub returns : goal.returns
unfolding stores already
returns c =
    let raised_is = c.not_lowered.ensures ∙ ap (λ (k : Label). not_lowered k (Some c.args.level)) c.label_of-label.ensures in
    level-done c.args.unit.now c.told-unit c.args.s c.args.o c.args.level c.requires.1 (sym c.by_owner.ensures ∙ c.in_default.is)
    (sym raised_is ∙ c.if-not-not_lowered.false) c.set_label.new.unit c.set_label.ensures (sym c.label_fits.ensures ∙ c.in_default-label_fits.is) _
    (c.is_level.ensures ∙ ap (λ (k : Label). same_label k (Some c.args.level)) c.label_of-label.ensures) _ c.done.ensures
