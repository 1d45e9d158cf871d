-- `capi::units::circmon_page` meets its contract.
-- Assumes nothing.
use mathlib.Core.Path.{ap, ◌∙◌}
use Rattle.model.specs.declared.Monitor.{Monitor}
use Rattle.model.specs.Decisions.{number}
use Rattle.page.specs.Page.{paging, paged}
use Rattle.unit.specs.Rows.{state_in}
use Rattle.journaled.proofs.Parts.{monitor-says}
use Rattle.capi.proofs.Told.{told-page}
use Rattle.capi.proofs.units.circmon_page.Goals as goal

pub returns : goal.returns
returns c =
    let says = ap state_in c.monitor.ensures ∙ monitor-says c.args.unit.now.rows in (
      told-page _ _ _ _ _ c.number.ensures c.page.ensures.0 ∙ ap (λ (m : Monitor). number (paging m c.args.object c.args.page.now)) says,
      c.page.ensures.1 ∙ ap (λ (m : Monitor). paged m c.args.object c.args.page.now) says,
    )
