-- `wall::numbers::confined` meets its contract.
-- Assumes nothing.
use Rattle.std.proofs.Common.{rules, tests, ℕ, ◌||◌}
use mathlib.Core.Path.{sym, subst}
use lib.Dec.{eqb}
use borrow.Author.Tests.{eqb-true}
use Rattle.model.specs.Companies.{Confined, confined}
use Rattle.model.proofs.Tests.{or_cases}
use Rattle.model.proofs.Companies.{confined-decides, confined-itself, no-company}
use Rattle.wall.proofs.numbers.confined.Goals as goal

pub returns-then-p-q : goal.returns-then-p-q
returns-then-p-q c = let a = c.args in
    sym ((confined-decides a.p a.q).1
    (or_cases (eqb a.p 0) (eqb a.p a.q) c.if-p-q.true
    (λ e. subst (λ (n : ℕ). Confined n a.q) (sym (eqb-true a.p 0 e)) (λ k h n. absurd (n (no-company k h))))
    (λ e. subst (Confined a.p) (eqb-true a.p a.q e) (confined-itself a.p))))

pub returns : goal.returns
unfolding confined
returns c = c.in_each_class.ensures (λ a b. eqb a 0 || eqb a b) (λ a b r p. search (rules, tests))
