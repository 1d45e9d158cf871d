-- `capi::sites::circmon_open_in` meets its contract.
-- Assumes nothing.
use mathlib.Core.Path.{ap, ◌∙◌}
use Rattle.model.specs.declared.Profile.{Profile}
use Rattle.model.specs.Decisions.{number}
use Rattle.model.specs.Reading.{read_image}
use Rattle.journaled.specs.Units.{begun_rows}
use Rattle.capi.proofs.Told.{told-image}
use Rattle.capi.proofs.sites.circmon_open_in.Goals as goal

pub returns : goal.returns
returns c = (
  told-image _ _ _ _ c.number.ensures c.open.ensures.0 ∙ ap (λ (p : Profile). number (read_image p c.args.image.now).decision) c.site.ensures,
  c.open.ensures.1 ∙ ap (λ (p : Profile). begun_rows (read_image p c.args.image.now).monitor) c.site.ensures,
)
