-- `hierarchy::chains::chain_ends` meets its contract.
-- Assumes nothing.
use Rattle.std.proofs.Common.{arith, sym, ap, ◌∙◌, suc, ◌-◌, ◌≡◌, ℕ}
use Rattle.model.specs.Hierarchy.{ends}
use Rattle.unit.specs.Rows.{objects_in}
use Rattle.hierarchy.proofs.Upward.{ends-none, ends-some, ends-never}
use Rattle.hierarchy.proofs.chains.chain_ends.Goals as goal

pub loop-preserved : goal.loop-preserved
loop-preserved c = let turn = c.loop-test.true in
    ends-some (objects_in c.args.unit.now) (64 - c.loop.counter) _ c.loop.at c.in-Some.p (omega (arith, turn)) (sym c.in-Some.is ∙ c.above.ensures) ∙ c.loop.invariant

pub returns-in-None : goal.returns-in-None
returns-in-None c = let turn = c.loop-test.true in
    sym (ends-none (objects_in c.args.unit.now) (64 - c.loop.counter) c.loop.at (omega (arith, turn)) (sym c.in-None.is ∙ c.above.ensures)) ∙ c.loop.invariant

pub returns : goal.returns
returns c = let l = objects_in c.args.unit.now in
    let over : 64 - c.loop.counter ≡ 0 = omega (arith, c.loop-test.false) in
    sym (ap (λ (n : ℕ). ends n l (suc c.loop.at)) over ∙ ends-never l c.loop.at) ∙ c.loop.invariant
