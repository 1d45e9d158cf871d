-- `image_records::read_object` meets its contract.
-- The five bits, the label, the company numbers, the sets and the parent give the object, live or not, and whether its record has its form.
-- Assumes nothing.
use mathlib.Core.Path.{◌≡◌, refl, ap, ◌∙◌}
use mathlib.Core.List.{List}
use Prim.Native.Nat.{ℕ, ◌+◌, ◌*◌, ◌≤◌}
use native.Mathlib.Omega.{arith}
use lib.ListN.{length, take, drop}
use Rattle.bits.specs.Bits.{field}
use Rattle.model.specs.Companies.{companies_width}
use Rattle.model.specs.Layout.{label_width, label_offset, companies_offset, sets_offset, sets_width, parent_width, parent_offset, object_width}
use Rattle.model.specs.Reading.{field_of}
use Rattle.image_records.specs.Records.{flag_width, bits_at, flag_of, label_of, sets_of}
use Rattle.image_records.proofs.Places.{length_at, part_at, field_at}
use Rattle.image_records.proofs.Contents.{object-off, object-on}
use Rattle.image_records.proofs.read_object.Goals as goal

parts : (s : List ℕ) (at : ℕ)
    → (bits_at s at flag_width ≡ take flag_width (bits_at s at object_width))
    × (bits_at s (at + label_offset) label_width ≡ take label_width (drop label_offset (bits_at s at object_width)))
    × (bits_at s (at + sets_offset) sets_width ≡ take sets_width (drop sets_offset (bits_at s at object_width)))
parts s at = (
  part_at s at object_width 0 flag_width at (omega arith) (omega arith),
  part_at s at object_width label_offset label_width (at + label_offset) refl (omega arith),
  part_at s at object_width sets_offset sets_width (at + sets_offset) refl (omega arith),
)

number_at : (s : List ℕ) (at i w : ℕ) → i + w ≤ object_width → at + object_width ≤ 8 * length s → field s (at + i) w ≡ field_of (bits_at s at object_width) i w
number_at s at i w h f = field_at s at object_width i w (at + i) refl h f

pub returns-in_default : goal.returns-in_default
returns-in_default c =
    let a = c.args in
    let n = c.read_field-companies in
    let p = c.read_field-parent in
    let P = parts a.bytes.now a.at in
    object-off (bits_at a.bytes.now a.at object_width) (length_at a.bytes.now a.at object_width (omega arith))
    c.read_flag-head.result (c.read_flag-head.ensures ∙ ap flag_of P.0)
    c.read_label-read.result (c.read_label-read.ensures ∙ ap label_of P.1)
    n.result (n.ensures.0 ∙ number_at a.bytes.now a.at companies_offset companies_width (omega arith) (omega arith))
    c.read_sets-sets.result (c.read_sets-sets.ensures ∙ ap sets_of P.2)
    p.result (p.ensures.0 ∙ number_at a.bytes.now a.at parent_offset parent_width (omega arith) (omega arith))
    c.no_object.result c.no_object.ensures c.in_default.is

pub returns : goal.returns
returns c =
    let a = c.args in
    let n = c.read_field-companies in
    let p = c.read_field-parent in
    let P = parts a.bytes.now a.at in
    object-on (bits_at a.bytes.now a.at object_width) (length_at a.bytes.now a.at object_width (omega arith))
    c.read_flag-head.result (c.read_flag-head.ensures ∙ ap flag_of P.0)
    c.read_label-read.result (c.read_label-read.ensures ∙ ap label_of P.1)
    n.result (n.ensures.0 ∙ number_at a.bytes.now a.at companies_offset companies_width (omega arith) (omega arith))
    c.read_sets-sets.result (c.read_sets-sets.ensures ∙ ap sets_of P.2)
    p.result (p.ensures.0 ∙ number_at a.bytes.now a.at parent_offset parent_width (omega arith) (omega arith))
    c.in-Some.owner c.is_present.result c.is_present.ensures c.in-Some.is
