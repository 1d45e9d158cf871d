-- `capi::units::circmon_open` meets its contract.
-- Assumes nothing.
use mathlib.Core.Path.{ap, ◌∙◌}
use Rattle.model.specs.declared.Profile.{Profile}
use Rattle.model.specs.Decisions.{number}
use Rattle.model.specs.Reading.{read_image}
use Rattle.journaled.specs.Units.{begun_rows}
use Rattle.capi.proofs.Told.{told-image}
use Rattle.capi.proofs.units.circmon_open.Goals as goal

pub returns : goal.returns
returns c = (
  told-image _ _ _ _ c.number.ensures c.open.ensures.0 ∙ ap (λ (p : Profile). number (read_image p c.args.image.now).decision) c.widest.ensures,
  c.open.ensures.1 ∙ ap (λ (p : Profile). begun_rows (read_image p c.args.image.now).monitor) c.widest.ensures,
)
