-- `image_records::read_subjects` meets its contract.
-- Assumes nothing.
-- Bytes of another length have no form. After s turns the records of the subjects below s are read, and have their form or not.
-- Assumes nothing.
use mathlib.Core.Path.{◌≡◌, refl, ap, ◌∙◌}
use mathlib.Core.Bool.{Bool, ◌||◌}
use Prim.Native.Nat.{ℕ, ◌*◌, ◌<◌}
use native.Mathlib.Omega.{arith}
use borrow.Author.Tests.{ne_eqb}
use lib.ListN.{length, take, drop, length-set}
use Rattle.bits.specs.Bits.{bytes_to_bits, cut}
use Rattle.model.specs.declared.Subject.{Subject}
use Rattle.model.specs.Tests.{all_of}
use Rattle.model.specs.State.{subject_count}
use Rattle.model.specs.Layout.{label_width, table_size}
use Rattle.model.specs.Reading.{subject_from, label_form, table_from, table_form}
use Rattle.image_records.specs.declared.LabelRead.{LabelRead}
use Rattle.image_records.specs.Records.{subjects_read}
use Rattle.image_records.proofs.Contents.{label-formed}
use Rattle.image_records.proofs.Gathering.{none-gathered, gather-more, gathered, none-formed, form-more}
use Rattle.image_records.proofs.Lengths.{table-read}
use Rattle.image_records.proofs.read_subjects.Goals as goal

pub returns-then-bytes-ne-TABLE_BYTES : goal.returns-then-bytes-ne-TABLE_BYTES
unfolding subjects_read
returns-then-bytes-ne-TABLE_BYTES c = rw (ne_eqb (length c.args.bytes.now) table_size c.if-bytes-ne-TABLE_BYTES.true)

pub loop-s-init : goal.loop-s-init
loop-s-init c = (omega arith, refl, none-gathered subject_from label_width (bytes_to_bits _), none-formed label_form label_width (bytes_to_bits _))

pub loop-s-preserved : goal.loop-s-preserved
loop-s-preserved c = let read = c.read_label-read in
    let loop = c.loop-s in
    let b = bytes_to_bits c.args.bytes.now in
    let i = loop.s in
    let v : Subject = record { clearance = read.result.label } in
    let says : v ≡ subject_from (take label_width (drop (label_width * i) b)) = ap (λ (k : LabelRead). record { clearance = k.label }) read.ensures in
    let form = ap (λ (x : Bool). x || read.result.blank) c.is_present.ensures ∙ label-formed (take label_width (drop (label_width * i) b)) read.result read.ensures in
    let h : i < length loop.subjects = omega (arith, loop.invariant.1) in (
      omega arith,
      length-set loop.subjects i v ∙ loop.invariant.1,
      gather-more subject_from label_width b loop.subjects i v h loop.invariant.2 says,
      form-more label_form label_width b i loop.formed _ loop.invariant.3 form,
    )

pub returns : goal.returns
unfolding table_from table_form
returns c = let loop = c.loop-s in
    let s = c.args.bytes.now in
    let b = bytes_to_bits s in
    let end : loop.s ≡ subject_count = omega arith in
    let subjects-eq = gathered subject_from subject_count label_width b loop.subjects loop.s loop.invariant.1 end loop.invariant.2 in
    let formed-eq = loop.invariant.3 ∙ ap (λ (k : ℕ). all_of label_form (cut k label_width b)) end in
    rw (table-read s c.if-bytes-ne-TABLE_BYTES.false) (λ i. record { subjects = subjects-eq i; formed = formed-eq i })
