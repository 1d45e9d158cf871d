-- Three requests, one behind the other.
-- Assumes nothing.
use mathlib.Core.Path.{refl}
use native.Mathlib.Omega.{arith}
use Rattle.distinguish.proofs.Storing.{stored_next, stored_last}
use Rattle.distinguish.proofs.write_reading.Goals as goal

pub returns : goal.returns
returns c =
    stored_next _ _ _ _ _ _ _ (omega arith) c.put_request.ensures refl
    (stored_next _ _ _ _ _ _ _ (omega arith) c.put_request-2.ensures (omega arith) (stored_last _ _ _ _ c.put_request-3.ensures))
