-- `journaled::restore` meets its contract.
-- Assumes nothing.
use borrow.Author.Rules.{rules}
use Rattle.journaled.proofs.Stored.{restored_by}
use Rattle.journaled.proofs.restore.Goals as goal

pub returns : goal.returns
returns c =
    restored_by c.args.monitor.now c.args.journal.now (search rules) _ _ _ c.latest_slot-k.ensures c.place_in-o.ensures c.record_in-was.ensures _ _ c.set_object.ensures c.leave.ensures
