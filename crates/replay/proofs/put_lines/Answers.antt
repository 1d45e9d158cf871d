-- `replay::put_lines` meets its contract.
-- Assumes nothing.
use Rattle.replay.proofs.Putting.{lining-start, lining-more}
use Rattle.replay.proofs.put_lines.Goals as goal

pub loop-n-init : goal.loop-n-init
loop-n-init c = lining-start _ _

pub loop-n-preserved : goal.loop-n-preserved
loop-n-preserved c = lining-more _ _ _ _ c.loop-n.n-index _ _ c.loop-n.invariant c.loop-n-test.true c.requires.0 c.put_line-at.ensures.0 c.put_line-at.ensures.1
