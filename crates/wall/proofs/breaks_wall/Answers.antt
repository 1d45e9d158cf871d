-- `wall::breaks_wall` meets its contract.
-- Assumes nothing.
use Rattle.std.proofs.Common.{rules, tests, refl, sym, ap, ◌∙◌, ℕ, Bool, not}
use Rattle.std.proofs.lemmas.Iterator.{YieldsList-from_range}
use Rattle.std.proofs.lemmas.Iterator.Search.{any_from_yields_List}
use Rattle.model.specs.Rules.{wall_for}
use Rattle.unit.specs.Rows.{object_in, objects_in}
use Rattle.unit.proofs.Tabulated.{tabulate-length}
use Rattle.star.proofs.Between.{between_in}
use Rattle.star.proofs.Ranges.{range-fails}
use Rattle.wall.proofs.Wall.{wall-unmarked}
use Rattle.wall.proofs.breaks_wall.Goals as goal

pub returns-then-no_companies : goal.returns-then-no_companies
returns-then-no_companies c = let a = c.args in
    let none = sym c.no_companies.ensures ∙ c.if-no_companies.true in
    sym (ap not (between_in a.low a.high _ (λ k g h. wall-unmarked k (objects_in a.unit.now) (tabulate-length 64 (object_in a.unit.now)) none)))

pub returns : goal.returns
returns c = let a = c.args in
    let kept : ℕ → Bool = λ s. wall_for s (objects_in a.unit.now) in
    any_from_yields_List (λ s. not (kept s)) _ _ c.any.result c.any.ensures.ran (YieldsList-from_range a.low a.high _ refl refl) (λ x b q k. search (rules, tests))
    ∙ range-fails kept a.low a.high c.requires.high_le_subject_count
