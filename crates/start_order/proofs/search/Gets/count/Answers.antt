-- `start_order::search::Gets::count` meets its contract.
-- Assumes nothing.
use Rattle.start_order.proofs.Searching.{counted}
use Rattle.start_order.proofs.search.Gets.count.Goals as goal

pub returns : goal.returns
returns c = counted c.args.self.now.requests.now _ c.piece_count.ensures
