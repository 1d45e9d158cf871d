-- `journaled::beginning::start` meets its contract.
-- Assumes nothing.
use Rattle.journaled.proofs.Stored.{begun-by}
use Rattle.journaled.proofs.beginning.start.Goals as goal

pub returns : goal.returns
returns c = (c.start-started.ensures.0, begun-by _ _ _ c.start-started.ensures.1 c.clear.ensures)
