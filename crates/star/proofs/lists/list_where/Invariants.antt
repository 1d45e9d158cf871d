-- `star::lists::list_where` meets its contract.
-- Assumes nothing.
use Rattle.std.proofs.Common.{ℕ, Bool, ◌<◌, ◌≤◌, ◌≡◌}
use Rattle.star.specs.Lists.{itself}
use Rattle.star.proofs.Listed.{Counted}
use Rattle.star.proofs.lists.list_where.Given as goal

abbrev pub invariant-loop-o : goal.invariant-loop-o
invariant-loop-o g l =
    (l.count ≤ l.o) × ((f : ℕ → Bool) → ((o : ℕ) → o < 64 → (r : Bool) → goal.F-post g l.passes o r → r ≡ f o) → Counted f itself l.room l.count l.o)
