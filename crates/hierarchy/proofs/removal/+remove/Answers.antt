-- `hierarchy::removal::remove` meets its contract: each turn of the loop leaves the objects up to there, and what is below them.
-- Assumes nothing.
use native.Mathlib.Omega.{arith}
use mathlib.Core.Path.{◌≡◌, sym, ap, ◌∙◌, subst}
use Prim.Native.Nat.{suc, ◌+◌, ◌<◌}
use lib.ListN.{length}
use lib.Dec.{eqb}
use Rattle.model.specs.State.{no_object, object_at}
use Rattle.model.proofs.Tests.{and_left}
use Rattle.unit.specs.Rows.{Rows, objects_in}
use Rattle.unit.proofs.Stores.{object-length}
use Rattle.hierarchy.proofs.Rowed.{rows-cleared, removed-length}
use Rattle.hierarchy.proofs.Leaving.{Leaves, leaves-start, leaves-fewer, leaves-past, leaves-more, leaves-end}
use Rattle.hierarchy.proofs.removal.+remove.Goals as goal
use Rattle.hierarchy.proofs.removal.+remove.Goals.{then-is_child, else-is_child}

pub loop-c-init : goal.loop-c-init
loop-c-init t c =
    let u = c.args.unit.now in
    let o = c.args.o in
    let there = c.requires.o_lt_object_count.0 in
    let stored = rows-cleared u o _ c.set_rows.ensures in (
      omega arith,
      ap length stored ∙ object-length u o no_object c.told-unit there,
      λ w n e. subst (λ (v : Rows). Leaves w o v 0) (sym e) (leaves-start w o n there),
    )

pub remove-requires : goal.remove-requires
remove-requires t c =
    let u = c.args.unit.now in
    let o = c.args.o in
    let there = c.requires.o_lt_object_count in
    let loop = c.loop-c in
    let left = loop.invariant.2 u c.told-unit (rows-cleared u o _ c.set_rows.ensures) in
    let fewer = leaves-fewer u o loop.unit loop.c left there.0 there.1 in
    let ob = object_at (objects_in loop.unit) loop.c in (
      omega (arith, fewer, c.decreases),
      (omega (arith, c.loop-c-test.true), and_left ob.live (eqb ob.parent (suc o)) (sym c.is_child.ensures ∙ c.if-is_child.true)),
    )

pub loop-c-preserved : goal.loop-c-preserved
loop-c-preserved t c =
    let o = c.args.o in
    let there = c.requires.o_lt_object_count.0 in
    let loop = c.loop-c in
    let turn : c.loop-c.c < 64 = omega (arith, c.loop-c-test.true) in
    let child = sym c.is_child.ensures in (
      omega (arith, turn),
      elim c.if-is_child.branch [
        | then-is_child w ↦ ap length (w.unit-is ∙ w.remove.ensures) ∙ removed-length loop.unit loop.c ∙ loop.invariant.1
        | else-is_child w ↦ ap length w.unit-is ∙ loop.invariant.1
      ],
      λ u n e.
          let left = loop.invariant.2 u n e in
          elim c.if-is_child.branch [
            | then-is_child w ↦ subst (λ (v : Rows). Leaves u o v (loop.c + 1)) (sym (w.unit-is ∙ w.remove.ensures)) (leaves-more u o loop.unit loop.c left there turn (child ∙ w.if-is_child.true))
            | else-is_child w ↦ subst (λ (v : Rows). Leaves u o v (loop.c + 1)) (sym w.unit-is) (leaves-past u o loop.unit loop.c left (child ∙ w.if-is_child.false))
          ],
    )

pub returns : goal.returns
returns t c =
    let u = c.args.unit.now in
    let o = c.args.o in
    let there = c.requires.o_lt_object_count in
    let loop = c.loop-c in
    let left = loop.invariant.2 u c.told-unit (rows-cleared u o _ c.set_rows.ensures) in
    let all : loop.c ≡ 64 = omega (arith, c.loop-c-test.false, loop.invariant.0) in
    leaves-end u o c.told-unit there.0 there.1 loop.unit (subst (Leaves u o loop.unit) all left)
