-- `writing::write_objects` meets its contract.
-- Assumes nothing.
use mathlib.Core.Path.{refl, ap, ◌∙◌}
use mathlib.Core.List.{[], ◌++◌}
use native.Mathlib.Omega.{arith}
use lib.ListN.{take}
use Rattle.bits.specs.Stream.{stay, next, ends}
use Rattle.unit.proofs.Tabulated.{tabulate-length}
use Rattle.writing.proofs.Streams.{join_more, join-all, no-records}
use Rattle.model.specs.declared.Object.{Object}
use Rattle.model.specs.State.{object_count, no_object}
use Rattle.model.specs.Layout.{object_bits, objects_bits}
use Rattle.unit.specs.Rows.{object_in, objects_in}
use Rattle.writing.proofs.write_objects.Goals as goal

pub loop-o-init : goal.loop-o-init
loop-o-init c = (omega arith, refl, omega arith, ends [] (objects_bits []) no-records refl (stay _ _ _ c.requires.1))

pub write_object-requires : goal.write_object-requires
write_object-requires c = let I = c.loop-o.invariant in
    (omega (arith, I.2, c.loop-o-test.true, c.requires.0.0), omega (arith, I.3.size, c.requires.0.1))

pub loop-o-preserved : goal.loop-o-preserved
loop-o-preserved c = let I = c.loop-o.invariant in
    let u = c.args.unit.now in
    let o = c.loop-o.o in
    let l = objects_in u in
    let one = ap (λ (k : Object). objects_bits (take o l) ++ object_bits k) c.object_in.ensures in
    let more = join_more object_bits o l no_object (omega (arith, c.loop-o-test.true, tabulate-length object_count (object_in u))) in
    (omega arith, c.write_object.ensures.same_buffer ∙ I.1, omega (arith, I.2, c.write_object.ensures.moves), ends _ _ (one ∙ more) refl (next _ _ refl I.3 c.write_object.ensures.wrote))

pub returns-clause-moves : goal.returns-clause-moves
returns-clause-moves c = omega (arith, c.loop-o.invariant.0, c.loop-o.invariant.2, c.loop-o-test.false)

pub returns-clause-wrote : goal.returns-clause-wrote
returns-clause-wrote c = let u = c.args.unit.now in
    ends _ _ (join-all object_bits c.loop-o.o object_count (objects_in u) (omega arith) (tabulate-length object_count (object_in u))) refl c.loop-o.invariant.3
