-- `writing::save` meets its contract.
-- A buffer that is too short is left; in any other the two parts, one behind the other, are the whole image.
-- Assumes nothing.
use mathlib.Core.Path.{refl, sym, ap, ◌∙◌}
use native.Mathlib.Omega.{arith}
use Rattle.bits.specs.Stream.{next}
use Rattle.model.specs.Decisions.{checked}
use Rattle.model.specs.Layout.{image_bits}
use Rattle.model.proofs.Buffers.{writing-short}
use Rattle.unit.specs.Rows.{state_in}
use Rattle.writing.proofs.Streams.{image-written}
use Rattle.writing.proofs.save.Goals as goal

pub returns-then-out-lt-IMAGE_BYTES : goal.returns-then-out-lt-IMAGE_BYTES
unfolding checked
returns-then-out-lt-IMAGE_BYTES c = let short = writing-short (state_in c.args.unit.now) c.args.out.now c.if-out-lt-IMAGE_BYTES.true in
    (ap checked short.0, short.1)

pub returns : goal.returns
unfolding image_bits
returns c = let subjects = c.write_subjects.ensures in
    let objects = c.write_objects.ensures in
    let begun = c.new-w.ensures.begun in
    image-written (state_in c.args.unit.now) c.args.out.now _ _ _ _ _ _ _ begun (omega arith) (omega (arith, objects.moves, subjects.moves, begun.1))
    (next _ _ refl subjects.wrote objects.wrote)
    (grind (arith, sym (objects.same_buffer ∙ subjects.same_buffer ∙ c.new-w.ensures.same_buffer)))
    (λ i. omega (arith, c.type_inv.out i))
