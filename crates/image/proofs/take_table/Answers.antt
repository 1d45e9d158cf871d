-- `image::take_table` meets its contract: the answer behind the length, and the rows.
-- Assumes nothing.
use mathlib.Core.Path.{refl, ap, ◌∙◌}
use borrow.Author.Tests.{eqb-true}
use Rattle.model.specs.Decisions.{checked}
use Rattle.model.proofs.Checked.{held}
use Rattle.image.proofs.Answers.{on_ok, table-rows, table-answer}
use Rattle.image.proofs.take_table.Goals as goal

pub returns-clause-answer : goal.returns-clause-answer
returns-clause-answer c =
    let fits = held _ c.ensure.ensures c.in_ok-ensure.was c.fits.ensures in
    let long = eqb-true _ _ (held _ c.ensure-2.ensures c.in_ok-ensure-2.was refl) in
    c.settle.ensures ∙ ap checked (table-answer c.args.profile fits c.args.table.now long _ c.read_subjects-read.ensures _ c.begin.ensures _ _ c.subjects_kept-kept.ensures refl)

pub returns-clause-begun : goal.returns-clause-begun
returns-clause-begun c =
    let fits = held _ c.ensure.ensures c.in_ok-ensure.was c.fits.ensures in
    let long = eqb-true _ _ (held _ c.ensure-2.ensures c.in_ok-ensure-2.was refl) in
    on_ok _ (table-rows c.args.profile fits c.args.table.now long _ c.read_subjects-read.ensures _ c.begin.ensures)
