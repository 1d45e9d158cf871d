-- `wall::no_companies` meets its contract.
-- Assumes nothing.
use Rattle.std.proofs.Common.{rules, tests, refl, ◌∙◌}
use Rattle.std.proofs.lemmas.Iterator.{YieldsList-from_range}
use Rattle.std.proofs.lemmas.Iterator.Search.{all_from_yields_List}
use Rattle.unit.specs.Rows.{objects_in}
use Rattle.star.proofs.Ranges.{range-all}
use Rattle.wall.specs.Lists.{unmarked, no_companies}
use Rattle.wall.proofs.no_companies.Goals as goal

pub returns : goal.returns
unfolding no_companies
returns c = let test = unmarked (objects_in c.args.unit.now) in
    all_from_yields_List test _ _ c.all.result c.all.ensures.ran (YieldsList-from_range 0 64 64 refl refl) (λ x b q k. search (rules, tests)) ∙ range-all test 64
