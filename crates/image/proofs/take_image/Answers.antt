-- `image::take_image` meets its contract: the answer of each check that refuses, that behind the last one, and the rows.
-- Assumes nothing.
use mathlib.Core.Path.{refl, sym, ap, ◌∙◌}
use mathlib.Core.Bool.{◌&&◌}
use borrow.Author.Tests.{eq-eqb, eqb-true}
use Rattle.std.proofs.lemmas.Result.{err_from_is_err_and}
use Rattle.model.specs.Decisions.{checked}
use Rattle.model.specs.Layout.{image_size}
use Rattle.model.specs.Reading.{monitor_from, image_checks, state_checks}
use Rattle.model.proofs.Tests.{apart}
use Rattle.unit.specs.Rows.{state_in}
use Rattle.model.proofs.Checked.{held, failed}
use Rattle.image.proofs.Answers.{on_ok, settled-refuses, settled-passes, wrong-profile, wrong-length, image-rows, image-answer}
use Rattle.image.proofs.take_image.Goals as goal

pub returns-in_err-ensure-clause-answer : goal.returns-in_err-ensure-clause-answer
unfolding image_checks monitor_from checked
returns-in_err-ensure-clause-answer c =
    let p = err_from_is_err_and c.from_residual.result c.from_residual.ensures.1 in
    let outside = failed c.ensure.ensures c.in_err-ensure.was c.fits.ensures in
    rw (p.1, p.2, outside.1) (ap checked (wrong-profile c.args.profile _ outside.0))

pub returns-in_err-ensure-2-clause-answer : goal.returns-in_err-ensure-2-clause-answer
unfolding image_checks monitor_from checked
returns-in_err-ensure-2-clause-answer c =
    let p = err_from_is_err_and c.from_residual-in_err-ensure-2.result c.from_residual-in_err-ensure-2.ensures.1 in
    let fits = held _ c.ensure.ensures c.in_ok-ensure.was c.fits.ensures in
    let short = failed c.ensure-2.ensures c.in_err-ensure-2.was refl in
    rw (p.1, p.2, short.1) (ap checked (wrong-length c.args.profile fits c.args.image.now image_size _ (λ e. apart (eq-eqb _ _ e) short.0)))

pub returns-in_err-settle-clause-answer : goal.returns-in_err-settle-clause-answer
returns-in_err-settle-clause-answer c =
    let p = err_from_is_err_and c.from_residual-in_err-settle.result c.from_residual-in_err-settle.ensures.1 in
    let fits = held _ c.ensure.ensures c.in_ok-ensure.was c.fits.ensures in
    let long = eqb-true _ _ (held _ c.ensure-2.ensures c.in_ok-ensure-2.was refl) in
    let O = c.read_objects-formed.ensures in
    rw (p.1, p.2)
    (settled-refuses (c.read_subjects-table.result.formed && c.read_objects-formed.result) c.keeps-kept.result (state_checks (state_in c.read_objects-formed.new.unit)) _ (sym c.settle.ensures ∙ c.in_err-settle.was)
    ∙ ap checked (image-answer c.args.profile fits c.args.image.now long _ c.read_subjects-table.ensures _ _ _ c.begin.ensures O.formed O.stored O.kept _ _ _ c.keeps-kept.ensures refl refl))

pub returns-clause-answer : goal.returns-clause-answer
returns-clause-answer c =
    let fits = held _ c.ensure.ensures c.in_ok-ensure.was c.fits.ensures in
    let long = eqb-true _ _ (held _ c.ensure-2.ensures c.in_ok-ensure-2.was refl) in
    let O = c.read_objects-formed.ensures in
    c.state_checks.ensures
    ∙ settled-passes (c.read_subjects-table.result.formed && c.read_objects-formed.result) c.keeps-kept.result (state_checks (state_in c.read_objects-formed.new.unit)) (sym c.settle.ensures ∙ c.in_ok-settle.was)
    ∙ ap checked (image-answer c.args.profile fits c.args.image.now long _ c.read_subjects-table.ensures _ _ _ c.begin.ensures O.formed O.stored O.kept _ _ _ c.keeps-kept.ensures refl refl)

pub returns-clause-begun : goal.returns-clause-begun
returns-clause-begun c =
    let fits = held _ c.ensure.ensures c.in_ok-ensure.was c.fits.ensures in
    let long = eqb-true _ _ (held _ c.ensure-2.ensures c.in_ok-ensure-2.was refl) in
    let O = c.read_objects-formed.ensures in
    on_ok _ (image-rows c.args.profile fits c.args.image.now long _ c.read_subjects-table.ensures _ _ _ c.begin.ensures O.formed O.stored O.kept)
