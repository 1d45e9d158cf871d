-- The first object that has another parent.
-- Assumes nothing.
use Rattle.std.proofs.Common.{rules}
use Rattle.unit.specs.Rows.{state_in}
use Rattle.telling.specs.Distinguish.{by_parent}
use Rattle.differences.specs.Records.{parents_apart}
use Rattle.differences.proofs.Searching.{found-first}
use Rattle.differences.proofs.parents.parents_apart.Goals as goal

pub returns : goal.returns
unfolding parents_apart by_parent
returns c = found-first 64 (by_parent (state_in c.args.a.now) (state_in c.args.b.now))
    (λ x r f k. search rules) (λ x r l k. search rules) _ c.find_map.ensures.runs
