-- `wall::lists::join_numbers` meets its contract.
-- Assumes nothing.
use Prim.Native.Nat.{ℕ}
use mathlib.Core.Path.{◌≡◌}
use Rattle.model.specs.State.{object_at}
use Rattle.unit.specs.Rows.{objects_in}
use Rattle.wall.specs.Joined.{joined_below, every, joins}
use Rattle.wall.specs.Lists.{numbers_at, read_at}
use Rattle.wall.proofs.lists.join_numbers.Given as goal

abbrev pub invariant-loop-o : goal.invariant-loop-o
invariant-loop-o l = let at = object_at (objects_in l.unit) in
    let g : ℕ → ℕ = numbers_at at l.list in
    (l.fit ≡ joins l.o-index g) × (l.seen ≡ joined_below l.o-index every g) × (l.read ≡ joined_below l.o-index (read_at l.s at l.list) g)
