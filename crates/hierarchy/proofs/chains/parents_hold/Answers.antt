-- `hierarchy::chains::parents_hold` meets its contract.
-- Assumes nothing.
use Rattle.std.proofs.Common.{rules, tests, refl, suc, ◌∙◌, ℕ, Bool, ◌&&◌}
use Rattle.std.proofs.lemmas.Iterator.{YieldsList-from_range}
use Rattle.std.proofs.lemmas.Iterator.Search.{all_from_yields_List}
use Rattle.model.specs.Hierarchy.{ends, parent_live}
use Rattle.model.specs.State.{object_at}
use Rattle.unit.specs.Rows.{objects_in}
use Rattle.hierarchy.proofs.Upward.{objects-length, all_hold}
use Rattle.hierarchy.proofs.chains.parents_hold.Goals as goal

pub returns : goal.returns
returns c = let l = objects_in c.args.unit.now in
    let f : ℕ → Bool = λ o. parent_live l (object_at l o).parent && ends 64 l (suc o) in
    all_from_yields_List f _ _ c.all.result c.all.ensures.ran (YieldsList-from_range 0 64 64 refl refl) (λ x b q k. search (rules, tests))
    ∙ all_hold l (objects-length c.args.unit.now)
