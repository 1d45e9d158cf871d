-- `hierarchy::labelling::labels_rise` meets its contract.
-- Assumes nothing.
use Rattle.std.proofs.Common.{rules, tests, refl, sym, ◌∙◌, Bool}
use Rattle.std.proofs.lemmas.Iterator.{YieldsList-from_range}
use Rattle.std.proofs.lemmas.Iterator.Search.{all_from_yields_List}
use Rattle.model.specs.declared.Object.{Object}
use Rattle.model.specs.Hierarchy.{label_under, labels_rise}
use Rattle.model.specs.State.{object_at}
use Rattle.unit.specs.Rows.{objects_in}
use Rattle.hierarchy.proofs.Upward.{objects-length, all-objects}
use Rattle.hierarchy.proofs.labelling.labels_rise.Goals as goal

pub returns : goal.returns
unfolding labels_rise
returns c = let l = objects_in c.args.unit.now in
    let rises : Object → Bool = λ ob. label_under l ob.label ob.parent in
    all_from_yields_List (λ o. rises (object_at l o)) _ _ c.all.result c.all.ensures.ran (YieldsList-from_range 0 64 _ refl (sym (objects-length c.args.unit.now))) (λ x b q k. search (rules, tests))
    ∙ all-objects rises l
