-- `model::no_object` meets its contract.
-- Assumes nothing.
use mathlib.Core.Path.{refl}
use Rattle.model.proofs.no_object.Goals as goal

pub returns : goal.returns
returns c = refl
