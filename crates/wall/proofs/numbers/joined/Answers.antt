-- `wall::numbers::joined` meets its contract.
-- Assumes nothing.
use native.Mathlib.Omega.{arith}
use mathlib.Core.Logic.{inl, inr}
use lib.Dec.{eqb}
use borrow.Author.Tests.{eqb-true}
use Rattle.model.proofs.Tests.{or_cases}
use Rattle.wall.proofs.Joined.{joined_same}
use Rattle.wall.proofs.numbers.joined.Goals as goal

pub returns-then-q-p : goal.returns-then-q-p
returns-then-q-p c = let a = c.args in
    joined_same a.p a.q (omega (arith, c.ranges.p)) (or_cases (eqb a.q 0) (eqb a.p a.q) c.if-q-p.true (λ e. inl (eqb-true _ _ e)) (λ e. inr (eqb-true _ _ e)))
