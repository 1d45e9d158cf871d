-- The first subject whose clearances differ.
-- Assumes nothing.
use Rattle.std.proofs.Common.{rules}
use Rattle.model.specs.State.{clearance_at}
use Rattle.unit.specs.Rows.{subjects_in}
use Rattle.differences.specs.Records.{clearance_apart, clearances_apart}
use Rattle.differences.proofs.Searching.{found-first}
use Rattle.differences.proofs.subjects.clearances_apart.Goals as goal

pub returns : goal.returns
unfolding clearances_apart
returns c = let a = subjects_in c.args.a.now in
    let b = subjects_in c.args.b.now in
    found-first 16 (λ s. clearance_apart c.args.place s (clearance_at a s) (clearance_at b s))
    (λ x r f k. search rules) (λ x r l k. search rules) _ c.find_map.ensures.runs
