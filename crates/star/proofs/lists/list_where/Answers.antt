-- `star::lists::list_where` meets its contract.
-- Assumes nothing.
use Rattle.std.proofs.Common.{arith, ap, sym, ◌∙◌, ◌≡◌, subst, take}
use Rattle.bits.specs.Bits.{bit}
use Rattle.star.specs.Lists.{itself, Listed}
use Rattle.star.proofs.Listed.{Counted, counted-none, counted_more, listed-front, from-bit, bit-small}
use Rattle.star.proofs.lists.list_where.Goals as goal

pub loop-o-init : goal.loop-o-init
loop-o-init g c = (omega arith, λ f h. counted-none f _ _ c.told-room)

pub loop-o-preserved : goal.loop-o-preserved
loop-o-preserved g c = let inv = c.loop-o.invariant in
    let one = c.from-count.ensures ∙ from-bit c.passes.result in (
      omega (arith, inv.0, one, bit-small c.passes.result),
      λ f h. counted_more f _ _ _ _ c.loop-o-test.true c.loop-o-test.true (inv.1 f h) _ (one ∙ ap bit (h c.loop-o.o c.loop-o-test.true _ c.passes.ensures)),
    )

pub returns : goal.returns
returns g c = let inv = c.loop-o.invariant in
    let end : c.loop-o.o ≡ 64 = omega (arith, c.loop-o-test.false, c.loop-o.auto.o-end) in
    let same : c.min.result ≡ c.loop-o.count = c.min.ensures ∙ omega (arith, inv.0, end) in
    λ f h. subst (λ k. Listed f itself (take k c.loop-o.room) 64) (sym same)
    (listed-front f itself c.loop-o.room c.loop-o.count 64 (omega arith) (subst (Counted f itself c.loop-o.room c.loop-o.count) end (inv.1 f h)))
