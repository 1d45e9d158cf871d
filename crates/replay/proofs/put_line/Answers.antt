-- `replay::put_line` meets its contract.
-- Assumes nothing.
use native.Mathlib.Omega.{arith}
use Rattle.replay.proofs.Putting.{short-line, long-line}
use Rattle.replay.proofs.put_line.Goals as goal

pub returns-then-n-lt10 : goal.returns-then-n-lt10
returns-then-n-lt10 c = let a = c.args in
    short-line a.out.now a.at a.n c.if-n-lt10.true (omega (arith, c.requires))

pub returns : goal.returns
returns c = let a = c.args in
    long-line a.out.now _ a.at a.n c.if-n-lt10.false c.requires c.put_two.ensures
