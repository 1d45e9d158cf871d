-- `star::breaks_star` meets its contract.
-- Assumes nothing.
use Rattle.std.proofs.Common.{rules, tests, refl, arith, ◌∙◌, ℕ, Bool, not}
use Rattle.std.proofs.lemmas.Iterator.{YieldsList-from_range, serves_from_Range}
use Rattle.std.proofs.lemmas.Iterator.Search.{any_from_yields_List}
use Rattle.model.specs.Rules.{star_for}
use Rattle.model.specs.State.{object_at}
use Rattle.unit.specs.Rows.{objects_in}
use Rattle.star.specs.Lists.{busy_for}
use Rattle.star.proofs.Ranges.{range-fails}
use Rattle.star.proofs.Listed.{busy-covers}
use Rattle.star.proofs.breaks_star.Goals as goal

pub any-requires-clause-callable : goal.any-requires-clause-callable
any-requires-clause-callable c = let a = c.args in
    let few = c.requires.high_le_subject_count in
    let busy = c.list_where-busy.ensures (busy_for a.low a.high (object_at (objects_in a.unit.now))) (λ o h r p. search (rules, tests)) in
    serves_from_Range (λ s q k. search (rules, tests))
    (λ s g h. (λ _ _ _ _ _. omega (arith, h, few), λ _ _ _ _ _ _ _ _. (omega (arith, h, few), busy-covers a.low a.high s g h few _ _ busy)))

pub returns : goal.returns
returns c = let a = c.args in
    let kept : ℕ → Bool = λ s. star_for s (objects_in a.unit.now) in
    any_from_yields_List (λ s. not (kept s)) _ _ c.any.result c.any.ensures.ran (YieldsList-from_range a.low a.high _ refl refl) (λ x b q k. search (rules, tests))
    ∙ range-fails kept a.low a.high c.requires.high_le_subject_count
