-- `start_order::alone::list_alone` meets its contract.
-- Assumes nothing.
use native.Mathlib.Omega.{arith}
use Rattle.start_order.proofs.Searching.{counted}
use Rattle.start_order.proofs.alone.list_alone.Goals as goal

pub returns-clause-listed : goal.returns-clause-listed
returns-clause-listed c = let size = counted c.args.requests.now _ c.piece_count-i-end.ensures in record {
  room = omega (arith, size, c.piece_count-i-end.ensures, c.requires.room);
  listed = λ k h. c.loop-i.invariant.so_far k (omega (arith, h, size, c.loop-i-test.false));
}
