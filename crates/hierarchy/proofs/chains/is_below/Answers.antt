-- `hierarchy::chains::is_below` meets its contract.
-- Assumes nothing.
use Rattle.std.proofs.Common.{arith, sym, ap, ◌∙◌, ◌-◌, ◌≡◌, ℕ}
use Rattle.model.specs.Hierarchy.{parent_at, meets}
use Rattle.unit.specs.Rows.{objects_in}
use Rattle.hierarchy.proofs.Upward.{meets-never, meets-none, meets-here, meets-past}
use Rattle.hierarchy.proofs.chains.is_below.Goals as goal

pub returns-in-Some : goal.returns-in-Some
returns-in-Some c = let turn = c.loop-test.true in
    sym (meets-here (objects_in c.args.unit.now) c.args.o (64 - c.loop.counter) c.loop.at c.in-Some.p (omega (arith, turn)) (sym c.in-Some.is ∙ c.above.ensures) c.if-p-o.true)
    ∙ c.loop.invariant

pub returns-in-None : goal.returns-in-None
returns-in-None c =
    sym (meets-none (objects_in c.args.unit.now) c.args.o (64 - c.loop.counter) c.loop.at (sym c.in-None.is ∙ c.above.ensures)) ∙ c.loop.invariant

pub loop-preserved : goal.loop-preserved
loop-preserved c = let turn = c.loop-test.true in
    meets-past (objects_in c.args.unit.now) c.args.o (64 - c.loop.counter) _ c.loop.at c.in-Some.p (omega (arith, turn)) (sym c.in-Some.is ∙ c.above.ensures) c.if-p-o.false
    ∙ c.loop.invariant

pub returns : goal.returns
returns c = let l = objects_in c.args.unit.now in
    let over : 64 - c.loop.counter ≡ 0 = omega (arith, c.loop-test.false) in
    sym (ap (λ (n : ℕ). meets n l c.args.o (parent_at l c.loop.at)) over ∙ meets-never l c.args.o _) ∙ c.loop.invariant
