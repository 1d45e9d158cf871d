-- `star::lists::list_held` meets its contract.
-- Assumes nothing.
use Rattle.std.proofs.Common.{arith, ap, ◌∙◌, ◌<◌}
use Rattle.bits.specs.Bits.{bit}
use Rattle.model.specs.Modes.{any_observes, any_alters}
use Rattle.star.proofs.Listed.{counted-none, counted_more, from-bit}
use Rattle.star.proofs.lists.list_held.Goals as goal

pub loop-o-init : goal.loop-o-init
loop-o-init c = (counted-none _ _ _ c.told-read, counted-none _ _ _ c.told-altered)

pub loop-o-preserved : goal.loop-o-preserved
loop-o-preserved c = let inv = c.loop-o.invariant in
    let busy = c.requires.s_lt_subject_count.1 in
    let modes = c.held_by-modes.ensures in
    let few : c.loop-o.o-index < 64 = omega (arith, c.loop-o-test.true, busy.few) in
    let below = busy.below _ c.loop-o-test.true in (
      counted_more _ _ _ _ _ few below inv.0 _ (c.from-r.ensures ∙ from-bit _ ∙ ap bit (c.table_observes.ensures ∙ ap any_observes modes)),
      counted_more _ _ _ _ _ few below inv.1 _ (c.from-a.ensures ∙ from-bit _ ∙ ap bit (c.table_alters.ensures ∙ ap any_alters modes)),
    )
