-- `bits::three_bytes` meets its contract: a shift and `|` put two fields side by side.
-- Assumes nothing.
use mathlib.Core.Path.{◌≡◌}
use Prim.Native.Nat.{◌+◌, ◌*◌, ◌/◌}
use native.Mathlib.Omega.{arith}
use Rattle.bits.proofs.Machine.{field-behind}
use Rattle.bits.proofs.three_bytes.Goals as goal

pub returns : goal.returns
returns c = let a = c.args in
    let k = a.at / 8 in
    let e : 8 * (k + 2) ≡ 8 * k + 16 = omega arith in
    rw (c.two_bytes.ensures, c.byte_or_zero.ensures, e) (field-behind a.s.now (8 * k) 16 8 32 (omega arith))
