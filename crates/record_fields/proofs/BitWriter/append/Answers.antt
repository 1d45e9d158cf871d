-- `record_fields::BitWriter::append` meets its contract.
-- Assumes nothing.
use mathlib.Core.Path.{◌≡◌, ap, ◌∙◌}
use Prim.Native.Nat.{min}
use native.Mathlib.Omega.{arith}
use Rattle.bits.specs.Bits.{waiting}
use Rattle.record_fields.proofs.Streams.{appended-less}
use Rattle.record_fields.proofs.BitWriter.append.Goals as goal

pub returns-clause-wrote : goal.returns-clause-wrote
returns-clause-wrote c = appended-less _ _ _ _ c.args.width c.args.x _ (omega arith) (omega arith) c.append-self.ensures

pub returns-clause-waits : goal.returns-clause-waits
returns-clause-waits c = let m : min c.args.width 8 ≡ c.args.width = omega arith in
    c.append-self.ensures.0 ∙ ap (λ k. waiting c.args.self.now.waiting k c.args.x) m
