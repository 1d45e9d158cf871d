-- `bits::read_field` meets its contract: a shift and a mask take a field out of three bytes.
-- Assumes nothing.
use Prim.Native.Nat.{min}
use native.Mathlib.Omega.{arith}
use Rattle.bits.specs.Fields.{field_lt}
use Rattle.bits.proofs.Machine.{mask-safe, field_out}
use Rattle.bits.proofs.read_field.Goals as goal

pub overflow_sub-result-3 : goal.overflow_sub-result-3
overflow_sub-result-3 c = mask-safe c.min-w.result (omega arith)

pub returns : goal.returns
returns c = let a = c.args in
    let w = min a.width 16 in
    let e = field_out a.s.now 24 a.at w (omega arith) (omega arith) in
    rw (c.min-w.ensures, c.three_bytes.ensures) (e, rw e (field_lt a.s.now a.at w))
