-- `journaled::beginning::open` meets its contract.
-- Assumes nothing.
use Rattle.journaled.proofs.Stored.{begun-by}
use Rattle.journaled.proofs.beginning.open.Goals as goal

pub returns : goal.returns
returns c = (c.open-opened.ensures.0, begun-by _ _ _ c.open-opened.ensures.1 c.clear.ensures)
