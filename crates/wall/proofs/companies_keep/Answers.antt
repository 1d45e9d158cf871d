-- `wall::companies_keep` meets its contract.
-- Assumes nothing.
use mathlib.Core.Path.{ap₂, ◌∙◌}
use mathlib.Core.Bool.{◌&&◌}
use Rattle.model.specs.Tests.{implies}
use Rattle.model.specs.Companies.{wall_kept}
use Rattle.wall.proofs.companies_keep.Goals as goal

pub returns : goal.returns
unfolding wall_kept
returns c = let first = c.implies-first.ensures ∙ ap₂ implies (ap₂ ◌&&◌ c.observes.ensures c.alters.ensures) c.confined.ensures in
    let second = c.implies-second.ensures ∙ ap₂ implies (ap₂ ◌&&◌ c.observes-2.ensures c.alters-2.ensures) c.confined-2.ensures in
    ap₂ ◌&&◌ c.compatible.ensures (ap₂ ◌&&◌ first second)
