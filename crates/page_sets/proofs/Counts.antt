-- How many modes a set has.
-- Assumes nothing.
use Prim.Native.Nat.{ℕ, ◌+◌, ◌≤◌}
use native.Mathlib.Omega.{arith}
use mathlib.Core.Path.{◌≡◌}
use mathlib.Core.Bool.{Bool, true, false}
use Rattle.bits.specs.Bits.{bit}
use Rattle.model.specs.declared.Mode.{Mode}
use Rattle.model.specs.declared.Mode.TheVariants.{Read, Write, Append, Execute}
use Rattle.model.specs.Modes.{has}
use Rattle.orders.specs.Sums.{sum_over}
use Rattle.page_sets.specs.Sets.{modes, mode_count}
use Rattle.orders.proofs.Sums.{sum-over-most}

pub bit-most : (b : Bool) → bit b ≤ 1
bit-most true = omega arith
bit-most false = omega arith

-- a set has at most four modes
pub count_small : (set : ℕ) → mode_count set ≤ 4
unfolding mode_count
count_small set = sum-over-most modes 1 (λ x. bit (has x set)) (λ x. bit-most (has x set))

-- the four modes, one by one
pub over-modes : (f : Mode → ℕ) → sum_over modes f ≡ f Read + f Write + f Append + f Execute
unfolding sum_over
over-modes f = omega arith
