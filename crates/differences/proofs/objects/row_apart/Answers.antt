-- The first subject whose sets differ.
-- Assumes nothing.
use Rattle.std.proofs.Common.{rules, get_or}
use Rattle.differences.specs.Records.{set_apart, row_apart}
use Rattle.differences.proofs.Searching.{found-first}
use Rattle.differences.proofs.objects.row_apart.Goals as goal

pub returns : goal.returns
unfolding row_apart
returns c = let args = c.args in
    found-first 16 (λ s. set_apart args.held args.o s (get_or args.a s 0) (get_or args.b s 0))
    (λ x r f k. search rules) (λ x r l k. search rules) _ c.find_map.ensures.runs
