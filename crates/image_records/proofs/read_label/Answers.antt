-- `image_records::read_label` meets its contract.
-- Assumes nothing.
-- The flag and the needs give the label, present or absent, and whether the record is blank.
-- Assumes nothing.
use mathlib.Core.Path.{◌≡◌, refl, ap, ◌∙◌}
use borrow.Author.Rules.{rules}
use Rattle.std.specs.Option.{option_map}
use Prim.Native.Nat.{◌+◌}
use native.Mathlib.Omega.{arith}
use Rattle.model.specs.State.{needs_width}
use Rattle.model.specs.Layout.{label_width}
use Rattle.image_records.specs.Records.{flag_width, bits_at, flag_of}
use Rattle.image_records.proofs.Places.{length_at, part_at, field_at}
use Rattle.image_records.proofs.Contents.{label-read}
use Rattle.image_records.proofs.read_label.Goals as goal

pub returns : goal.returns
returns c = let head = c.read_flag-head in
    let n = c.read_field in
    let a = c.args in
    let s = a.bytes.now in
    let p = a.at in
    let says : c.map-label.result ≡ option_map (λ k. record { class = k; needs = n.result }) head.result.number = search rules in
    rw says
    (label-read (bits_at s p label_width) (length_at s p label_width (omega arith)) head.result (head.ensures ∙ ap flag_of (part_at s p label_width 0 flag_width p (omega arith) (omega arith)))
    n.result (n.ensures.0 ∙ field_at s p label_width flag_width needs_width (p + flag_width) refl (omega arith) (omega arith)) head.result.number refl)
