-- The cases of a sequence.
-- Assumes nothing.
use mathlib.Core.Path.{refl}
use native.Mathlib.Omega.{arith}
use Rattle.distinguish.proofs.Storing.{stored_next, stored_last}
use Rattle.distinguish.proofs.write_sequence.Goals as goal

pub returns-in-One : goal.returns-in-One
returns-in-One c = rw c.in-One.is (refl, stored_last _ _ _ _ c.put_request.ensures)

pub returns-in-Remaking : goal.returns-in-Remaking
returns-in-Remaking c = let first = c.put_request-in-Remaking in
    rw c.in-Remaking.is (refl, stored_next _ _ _ _ _ _ _ (omega arith) first.ensures refl (stored_last _ _ _ _ c.put_request-in-Remaking-2.ensures))

pub returns-in-Some : goal.returns-in-Some
returns-in-Some c = let first = c.put_request-in-Some in
    rw (c.in-Reading.is, c.in-Some.is) (refl, stored_next _ _ _ _ _ _ _ (omega arith) first.ensures refl c.write_reading-in-Some.ensures)
