-- `hierarchy::removal::has_child` meets its contract.
-- Assumes nothing.
use Rattle.std.proofs.Common.{rules, tests, refl, sym, ◌∙◌}
use Rattle.std.proofs.lemmas.Iterator.{YieldsList-from_range}
use Rattle.std.proofs.lemmas.Iterator.Search.{any_from_yields_List}
use Rattle.model.specs.State.{object_at}
use Rattle.unit.specs.Rows.{objects_in}
use Rattle.hierarchy.specs.Removed.{child_of}
use Rattle.hierarchy.proofs.Upward.{objects-length, any-child}
use Rattle.hierarchy.proofs.removal.has_child.Goals as goal

pub returns : goal.returns
returns c = let l = objects_in c.args.unit.now in
    any_from_yields_List (λ k. child_of (object_at l k) c.args.o) _ _ c.any.result c.any.ensures.ran (YieldsList-from_range 0 64 _ refl (sym (objects-length c.args.unit.now))) (λ x b q k. search (rules, tests))
    ∙ any-child l c.args.o
