-- `star::nothing_held` meets its contract: the sets below the index are looked at.
-- Assumes nothing.
use Rattle.std.proofs.Common.{arith, ap, ◌≡◌, ◌∙◌}
use Rattle.model.specs.Tests.{all_below}
use Rattle.star.specs.Idle.{free, nothing_held}
use Rattle.star.proofs.nothing_held.Goals as goal

pub returns : goal.returns
unfolding nothing_held
returns c = let end : c.loop-modes.modes-index ≡ 16 = omega (arith, c.loop-modes-test.false, c.loop-modes.auto.modes-index-end) in
    c.loop-modes.invariant ∙ ap (λ k. all_below k (free c.args.row)) end
