-- `unit::rows::profile_in` meets its contract.
-- Assumes nothing.
use Rattle.unit.specs.Rows.{profile_in}
use Rattle.unit.proofs.rows.profile_in.Goals as goal

pub returns : goal.returns
unfolding profile_in
returns c = rw c.level_in.ensures
