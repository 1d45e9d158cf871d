-- `capi::units::circmon_save` meets its contract.
-- Assumes nothing.
use mathlib.Core.Path.{ap, ◌∙◌}
use Rattle.model.specs.declared.Monitor.{Monitor}
use Rattle.model.specs.Writing.{written}
use Rattle.unit.specs.Rows.{state_in}
use Rattle.journaled.proofs.Parts.{monitor-says}
use Rattle.capi.proofs.Told.{told-writing}
use Rattle.capi.proofs.units.circmon_save.Goals as goal

pub returns : goal.returns
returns c =
    let says = ap state_in c.monitor.ensures ∙ monitor-says c.args.unit.now.rows in
    (told-writing _ _ _ c.number.ensures c.save.ensures.0, c.save.ensures.1 ∙ ap (λ (m : Monitor). written m c.args.image.now) says)
