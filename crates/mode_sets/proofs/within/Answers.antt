-- `mode_sets::within` meets its contract.
-- Assumes nothing.
use Rattle.labels.proofs.Sets.{within-and}
use Rattle.mode_sets.proofs.within.Goals as goal

pub returns : goal.returns
returns c = within-and c.args.h c.args.r
