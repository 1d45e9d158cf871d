-- `capi::circmon_begin` meets its contract.
-- Assumes nothing.
use mathlib.Core.Path.{sym, ap, ◌∙◌}
use Rattle.model.specs.Decisions.{number}
use Rattle.model.proofs.Checked.{refusal, passes}
use Rattle.capi.proofs.Told.{told-writing}
use Rattle.capi.proofs.Boundary.{begin-refused, begin-written}
use Rattle.capi.proofs.circmon_begin.Goals as goal

pub returns-in-Err : goal.returns-in-Err
returns-in-Err c =
    let r = refusal _ _ (sym c.check_table.ensures ∙ c.in-Err.is) in
    begin-refused _ _ r.0 _ (c.from.ensures ∙ ap number r.1)

pub write_begun-requires : goal.write_begun-requires
write_begun-requires c = sym c.check_table.ensures ∙ c.in_default.is

pub returns : goal.returns
returns c =
    begin-written _ _ (passes _ (sym c.check_table.ensures ∙ c.in_default.is)) _ (told-writing _ _ _ c.number.ensures c.write_begun.ensures.0) _ c.write_begun.ensures.1
