-- The first object of which the rest of the records differs.
-- Assumes nothing.
use Rattle.std.proofs.Common.{rules}
use Rattle.model.specs.State.{object_at}
use Rattle.unit.specs.Rows.{objects_in}
use Rattle.differences.specs.Records.{object_apart, objects_apart}
use Rattle.differences.proofs.Searching.{found-first}
use Rattle.differences.proofs.objects.objects_apart.Goals as goal

pub returns : goal.returns
unfolding objects_apart
returns c = let a = objects_in c.args.a.now in
    let b = objects_in c.args.b.now in
    found-first 64 (λ o. object_apart o (object_at a o) (object_at b o))
    (λ x r f k. search rules) (λ x r l k. search rules) _ c.find_map.ensures.runs
