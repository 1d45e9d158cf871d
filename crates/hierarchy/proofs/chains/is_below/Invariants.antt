-- `hierarchy::chains::is_below` meets its contract.
-- Assumes nothing.
use Prim.Native.Nat.{◌-◌}
use mathlib.Core.Path.{◌≡◌}
use Rattle.model.specs.Hierarchy.{parent_at, meets, below}
use Rattle.unit.specs.Rows.{objects_in}
use Rattle.hierarchy.proofs.chains.is_below.Given as goal

abbrev pub invariant-loop : goal.invariant-loop
invariant-loop l = let all = objects_in l.unit in
    meets (64 - l.counter) all l.o (parent_at all l.at) ≡ below all l.o l.y
