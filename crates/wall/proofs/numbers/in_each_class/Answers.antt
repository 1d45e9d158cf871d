-- `wall::numbers::in_each_class` meets its contract.
-- Assumes nothing.
use Rattle.std.proofs.Common.{ap₂, ◌∙◌, ◌&&◌}
use Rattle.model.specs.Companies.{company}
use Rattle.wall.proofs.Joined.{last-company}
use Rattle.wall.proofs.numbers.in_each_class.Goals as goal

pub returns : goal.returns
unfolding company
returns g c = let a = c.args in
    λ f h. ap₂ ◌&&◌ (ap₂ ◌&&◌ (ap₂ ◌&&◌ (h _ _ _ c.passes-first.ensures) (h _ _ _ c.passes-second.ensures)) (h _ _ _ c.passes-third.ensures))
    (h _ _ _ c.passes-last.ensures ∙ ap₂ f (last-company a.p) (last-company a.q))
