-- `capi::sites::circmon_start_in` meets its contract.
-- Assumes nothing.
use mathlib.Core.Path.{ap, ◌∙◌}
use Rattle.model.specs.declared.Profile.{Profile}
use Rattle.model.specs.Decisions.{number}
use Rattle.model.specs.Reading.{read_table}
use Rattle.journaled.specs.Units.{begun_rows}
use Rattle.capi.proofs.Told.{told-table}
use Rattle.capi.proofs.sites.circmon_start_in.Goals as goal

pub returns : goal.returns
returns c = (
  told-table _ _ _ _ c.number.ensures c.start.ensures.0 ∙ ap (λ (p : Profile). number (read_table p c.args.table.now).decision) c.site.ensures,
  c.start.ensures.1 ∙ ap (λ (p : Profile). begun_rows (read_table p c.args.table.now).monitor) c.site.ensures,
)
