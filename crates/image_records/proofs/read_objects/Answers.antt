-- `image_records::read_objects` meets its contract.
-- Assumes nothing.
use Prim.Native.Nat.{ℕ, ◌+◌}
use native.Mathlib.Omega.{arith}
use mathlib.Core.Path.{◌≡◌, refl, sym, ap, ◌∙◌, subst}
use Rattle.bits.specs.Bits.{bytes_to_bits, cut}
use Rattle.model.specs.Tests.{all_of}
use Rattle.model.specs.State.{object_count, no_object}
use Rattle.model.specs.Layout.{object_width}
use Rattle.model.specs.Reading.{object_from, object_form, objects_from, objects_form}
use Rattle.unit.specs.Rows.{Rows}
use Rattle.unit.specs.Stored.{ObjectsStored, SameClearances}
use Rattle.unit.proofs.Units.{objects-none, objects-more, clearances-kept}
use Rattle.image_records.specs.declared.ObjectRead.{ObjectRead}
use Rattle.image_records.proofs.Gathering.{record-at, none-formed, form-more}
use Rattle.image_records.proofs.read_objects.Goals as goal

pub loop-o-init : goal.loop-o-init
loop-o-init c = (omega arith, objects-none _ _ c.told-unit, record { same = λ s. refl }, none-formed object_form object_width (bytes_to_bits _))

pub loop-o-preserved : goal.loop-o-preserved
unfolding objects_from
loop-o-preserved c = let loop = c.loop-o in
    let t = c.loop-o-test.true in
    let b = bytes_to_bits c.args.bytes.now in
    let read = c.read_object-read.result in
    let says = ap (λ (k : ObjectRead). k.object) c.read_object-read.ensures ∙ sym (record-at object_from object_count object_width b loop.o no_object t) in
    let form = ap (λ (k : ObjectRead). k.formed) c.read_object-read.ensures in
    let e = sym c.set_object.ensures in (
      omega (arith, t),
      subst (λ (w : Rows). ObjectsStored (objects_from c.args.bytes.now) w (loop.o + 1)) e (objects-more _ _ _ _ loop.invariant.1 t says),
      subst (SameClearances c.args.unit.now) e (clearances-kept _ _ _ _ loop.invariant.1.whole t loop.invariant.2),
      form-more object_form object_width b loop.o loop.formed read.formed loop.invariant.3 form,
    )

pub returns : goal.returns
unfolding objects_form
returns c = let loop = c.loop-o in
    let b = bytes_to_bits c.args.bytes.now in
    let end : loop.o ≡ object_count = omega (arith, c.loop-o-test.false, loop.invariant.0) in record {
      formed = loop.invariant.3 ∙ ap (λ (k : ℕ). all_of object_form (cut k object_width b)) end;
      stored = subst (ObjectsStored (objects_from c.args.bytes.now) loop.unit) end loop.invariant.1;
      kept = loop.invariant.2;
    }
