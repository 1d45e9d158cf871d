-- `bits::read_byte` meets its contract: a shift and a mask take a field out of two bytes.
-- Assumes nothing.
use mathlib.Core.Path.{◌≡◌}
use Prim.Native.Nat.{◌-◌, ◌%◌}
use native.Mathlib.Omega.{arith}
use Rattle.bits.specs.Fields.{field_lt}
use Rattle.bits.proofs.Machine.{field_out}
use Rattle.bits.proofs.read_byte.Goals as goal

pub returns : goal.returns
returns c = let a = c.args in
    let k : 8 - a.at % 8 ≡ 16 - a.at % 8 - 8 = omega arith in
    let e = field_out a.s.now 16 a.at 8 (omega arith) (omega arith) in
    rw (c.two_bytes.ensures, k) (e, rw e (field_lt a.s.now a.at 8))
