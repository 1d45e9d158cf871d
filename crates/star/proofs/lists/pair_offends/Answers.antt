-- `star::lists::pair_offends` meets its contract.
-- Assumes nothing.
use Rattle.std.proofs.Common.{arith, sym, ap, ap₂, ◌∙◌, not, length}
use borrow.Author.Count.{below_more}
use Rattle.model.specs.Levels.{dominates}
use Rattle.model.specs.State.{object_at}
use Rattle.model.proofs.Tests.{below_in}
use Rattle.unit.specs.Rows.{objects_in}
use Rattle.star.specs.Lists.{label_at, pairs_kept}
use Rattle.star.proofs.Listed.{pair-apart}
use Rattle.star.proofs.lists.pair_offends.Goals as goal

pub pairs-preserved : goal.pairs-preserved
pairs-preserved c =
    let inner = c.loop-q.invariant in (
      inner.0,
      below_more _ _ c.pairs.invariant.1
          (below_in (length c.args.altered.now) _ (λ j h.
          ap (dominates (label_at (object_at (objects_in c.args.unit.now)) c.args.altered.now j)) (sym c.label_of-below.ensures)
          ∙ inner.1 j (omega (arith, c.loop-q-test.false, h)))),
    )

pub returns-after-pairs : goal.returns-after-pairs
unfolding pairs_kept
returns-after-pairs c = let inv = c.pairs.invariant in
    inv.0 ∙ sym (ap not (below_in (length c.args.read.now) _ (λ i h. inv.1 i (omega (arith, c.pairs-test.false, h)))))

pub returns-then-not-dominates : goal.returns-then-not-dominates
returns-then-not-dominates c = let broken = ap₂ dominates (sym c.label_of-above.ensures) (sym c.label_of-below.ensures) ∙ sym c.dominates.ensures ∙ c.if-not-dominates.true in
    sym (ap not (pair-apart _ _ _ c.pairs.p-index c.loop-q.q-index c.pairs-test.true c.loop-q-test.true broken))
