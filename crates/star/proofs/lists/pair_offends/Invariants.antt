-- `star::lists::pair_offends` meets its contract.
-- Assumes nothing.
use Rattle.std.proofs.Common.{ℕ, ◌<◌, ◌≡◌, Bool, true, false, List, length}
use Rattle.model.specs.Levels.{dominates}
use Rattle.model.specs.State.{object_at}
use Rattle.model.specs.Tests.{all_below}
use Rattle.unit.specs.Rows.{objects_in}
use Rattle.star.specs.Lists.{label_at}
use Rattle.star.proofs.lists.pair_offends.Given as goal

abbrev pub in_order : List (List ℕ) → List ℕ → List ℕ → ℕ → Bool
in_order unit read altered i = all_below (length altered) (λ j. dominates (label_at (object_at (objects_in unit)) altered j) (label_at (object_at (objects_in unit)) read i))

abbrev pub invariant-loop-q : goal.invariant-loop-q
invariant-loop-q l = (l.offends ≡ false) × ((j : ℕ) → j < l.q-index → dominates (label_at (object_at (objects_in l.unit)) l.altered j) l.below ≡ true)

abbrev pub invariant-pairs : goal.invariant-pairs
invariant-pairs l = (l.offends ≡ false) × ((i : ℕ) → i < l.p-index → in_order l.unit l.read l.altered i ≡ true)
