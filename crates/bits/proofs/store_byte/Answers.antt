-- `bits::store_byte` meets its contract: past the end a store changes nothing.
-- Assumes nothing.
use mathlib.Core.Path.{sym}
use Prim.Native.Nat.{◌%◌}
use lib.Seq.{set_out}
use Rattle.bits.proofs.Machine.{byte_of, byte-lt}
use Rattle.bits.proofs.store_byte.Goals as goal

pub overflow_cast-out : goal.overflow_cast-out
overflow_cast-out c = record { fits = byte-lt c.args.b }

pub returns-then-k-out : goal.returns-then-k-out
returns-then-k-out c = rw (byte_of c.args.b)

pub returns-else-k-out : goal.returns-else-k-out
returns-else-k-out c = let a = c.args in sym (set_out a.out.now a.k (a.b % 256) c.if-k-out.false)
