-- `wall::numbers::compatible` meets its contract.
-- Assumes nothing.
use Rattle.std.proofs.Common.{rules, tests, ◌||◌}
use mathlib.Core.Path.{sym, subst}
use mathlib.Core.Logic.{inl, inr}
use lib.Dec.{eqb}
use borrow.Author.Tests.{eqb-true}
use Rattle.model.specs.Companies.{Compatible, compatible}
use Rattle.model.proofs.Tests.{or_cases}
use Rattle.model.proofs.Companies.{compatible-decides, compatible-itself, no-company}
use Rattle.wall.proofs.numbers.compatible.Goals as goal

pub returns-then-q-p : goal.returns-then-q-p
returns-then-q-p c = let a = c.args in
    sym ((compatible-decides a.p a.q).1
    (or_cases (eqb a.q 0) (eqb a.p a.q) c.if-q-p.true
    (λ e. subst (Compatible a.p) (sym (eqb-true a.q 0 e)) (λ k h. inr (inl (no-company k h))))
    (λ e. subst (Compatible a.p) (eqb-true a.p a.q e) (compatible-itself a.p))))

pub returns : goal.returns
unfolding compatible
returns c = c.in_each_class.ensures (λ a b. eqb a 0 || (eqb b 0 || eqb a b)) (λ a b r p. search (rules, tests))
