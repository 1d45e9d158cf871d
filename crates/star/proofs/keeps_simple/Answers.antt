-- `star::keeps_simple` meets its contract.
-- Assumes nothing.
use Rattle.std.proofs.Common.{rules, tests, refl, ap, ◌∙◌, ℕ, Bool, List}
use Rattle.std.proofs.lemmas.Iterator.{YieldsList-from_range}
use Rattle.std.proofs.lemmas.Iterator.Search.{all_from_yields_List}
use Rattle.model.specs.Levels.{Label, dominates}
use Rattle.model.specs.Modes.{any_observes}
use Rattle.model.specs.Rules.{simple_all}
use Rattle.model.specs.State.{object, clearance, held_by}
use Rattle.model.specs.Tests.{all_below, implies}
use Rattle.unit.specs.Rows.{state_in}
use Rattle.star.proofs.Ranges.{range-all}
use Rattle.star.proofs.keeps_simple.Goals as goal

abbrev passes : List (List ℕ) → ℕ → Label → ℕ → Bool
passes u o label s = implies (any_observes (held_by (object (state_in u) o) s)) (dominates (clearance (state_in u) s) label)

pub returns : goal.returns
unfolding simple_all
returns c = let test = passes c.args.unit.now c.args.o in
    all_from_yields_List (test c.label_of-label.result) _ _ c.all.result c.all.ensures.ran (YieldsList-from_range 0 16 16 refl refl) (λ x b q k. search (rules, tests))
    ∙ range-all (test c.label_of-label.result) 16 ∙ ap (λ (l : Label). all_below 16 (test l)) c.label_of-label.ensures
