-- `bits::read_word` meets its contract: a shift and `|` put two fields side by side.
-- Assumes nothing.
use native.Mathlib.Omega.{arith}
use Rattle.bits.specs.Fields.{field_lt}
use Rattle.bits.proofs.Machine.{field-behind}
use Rattle.bits.proofs.read_word.Goals as goal

pub returns : goal.returns
returns c = let s = c.args.s.now in
    let e = field-behind s 0 24 24 64 (omega arith) in
    rw (c.from-high.ensures, c.from-low.ensures, c.three_bytes.ensures, c.three_bytes-2.ensures) (e, rw e (field_lt s 0 48))
