-- `bits::append` meets its contract, by whether a byte is full now.
-- Assumes nothing.
use mathlib.Core.Path.{ap, ◌∙◌}
use Prim.Native.Nat.{min}
use native.Mathlib.Omega.{arith}
use lib.ListN.{length}
use Rattle.bits.specs.Bits.{waiting}
use Rattle.bits.specs.Stream.{stored-full, stored-wait, length-stored}
use Rattle.bits.proofs.Machine.{byte_of}
use Rattle.bits.proofs.append.Goals as goal

pub returns : goal.returns
unfolding waiting
returns c =
    let a = c.args in
    let w = min a.width 8 in
    let v = c.join_bits-v in
    let n = c.min.ensures in
    let full = stored-full a.out.now a.at a.acc w a.x in
    let wait = stored-wait a.out.now a.at a.acc w a.x in (
      rw (byte_of v.result, v.ensures),
      grind (arith, full, wait, v.ensures, n),
    )

pub shape_of-out : goal.shape_of-out
shape_of-out c = let a = c.args in
    ap length (returns c).1 ∙ length-stored a.out.now a.at a.acc (min a.width 8) a.x
