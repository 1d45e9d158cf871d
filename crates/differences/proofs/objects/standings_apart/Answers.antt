-- The first object of which life or owner differ.
-- Assumes nothing.
use Rattle.std.proofs.Common.{rules}
use Rattle.model.specs.State.{object_at}
use Rattle.unit.specs.Rows.{objects_in}
use Rattle.differences.specs.Records.{standing_apart, standings_apart}
use Rattle.differences.proofs.Searching.{found-first}
use Rattle.differences.proofs.objects.standings_apart.Goals as goal

pub returns : goal.returns
unfolding standings_apart
returns c = let a = objects_in c.args.a.now in
    let b = objects_in c.args.b.now in
    found-first 64 (λ o. standing_apart o (object_at a o) (object_at b o))
    (λ x r f k. search rules) (λ x r l k. search rules) _ c.find_map.ensures.runs
