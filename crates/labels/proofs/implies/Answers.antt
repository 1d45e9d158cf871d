-- `labels::implies` meets its contract.
-- Assumes nothing.
use mathlib.Core.Path.{◌≡◌, refl}
use mathlib.Core.Bool.{Bool, true, false, not, ◌||◌}
use Rattle.model.specs.Tests.{implies}
use Rattle.labels.proofs.implies.Goals as goal

implies-or : (a b : Bool) → (not a || b) ≡ implies a b
unfolding implies
implies-or true b = refl
implies-or false b = refl

pub returns : goal.returns
returns c = implies-or c.args.a c.args.b
