-- `hierarchy::chains::chain_ends` meets its contract.
-- Assumes nothing.
use Prim.Native.Nat.{suc, ◌-◌}
use mathlib.Core.Path.{◌≡◌}
use Rattle.model.specs.Hierarchy.{ends}
use Rattle.unit.specs.Rows.{objects_in}
use Rattle.hierarchy.proofs.chains.chain_ends.Given as goal

abbrev pub invariant-loop : goal.invariant-loop
invariant-loop l = ends (64 - l.counter) (objects_in l.unit) (suc l.at) ≡ ends 64 (objects_in l.unit) (suc l.o)
