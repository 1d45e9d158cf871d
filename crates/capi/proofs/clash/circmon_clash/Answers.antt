-- `capi::clash::circmon_clash` meets its contract.
-- Assumes nothing.
use mathlib.Core.Path.{ap, ◌∙◌}
use Rattle.model.specs.Program.{pieces}
use Rattle.unit.specs.Rows.{state_in}
use Rattle.journaled.proofs.Parts.{monitor-says}
use Rattle.start_order.specs.Answers.{start_order}
use Rattle.numbers.specs.Orders.{order_number}
use Rattle.capi.proofs.clash.circmon_clash.Goals as goal

pub returns : goal.returns
returns c =
    let says = ap state_in c.monitor.ensures ∙ monitor-says c.args.unit.now.rows in
    c.order_number.ensures ∙ ap order_number (c.start_order-found.ensures ∙ ap (start_order (pieces c.args.requests.now)) says)
