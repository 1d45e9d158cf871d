-- `bits::join_bits` meets its contract: masks are remainders, and `|` adds what does not overlap.
-- Assumes nothing.
use Prim.Native.Nat.{min, ◌%◌, ◌^◌}
use native.Mathlib.Nat.{mod-lt}
use native.Mathlib.Omega.{arith}
use lib.Pow.{pow_pos}
use Rattle.bits.specs.Bits.{joined}
use Rattle.bits.proofs.Machine.{mask, mask-safe, byte_of, behind}
use Rattle.bits.proofs.join_bits.Goals as goal

pub overflow_sub-result : goal.overflow_sub-result
overflow_sub-result c = mask-safe c.min-w.result (omega arith)

pub returns : goal.returns
unfolding joined
returns c = let a = c.args in
    let w = min a.width 8 in
    rw (c.min-w.ensures, byte_of a.acc, mask a.x w (omega arith))
    (behind {a = a.acc % 256} {b = a.x % 2 ^ w} 8 w 32 (omega arith) (mod-lt a.x (pow_pos w)) (omega arith))
