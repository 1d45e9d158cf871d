-- `image_records::read_flag` meets its contract.
-- Assumes nothing.
-- The number in five bits gives their flag, the number behind it, and whether they are blank.
-- Assumes nothing.
use mathlib.Core.Path.{◌∙◌}
use native.Mathlib.Omega.{arith}
use Rattle.bits.specs.Fields.{field-within}
use Rattle.image_records.specs.Records.{flag_width, bits_at}
use Rattle.image_records.proofs.Places.{length_at}
use Rattle.image_records.proofs.Contents.{flag-from}
use Rattle.image_records.proofs.read_flag.Goals as goal

pub returns : goal.returns
returns c = let a = c.args in
    let s = a.bytes.now in
    rw c.then_some.ensures (flag-from (bits_at s a.at flag_width) c.read_field-head.result (length_at s a.at flag_width (omega arith))
    (c.read_field-head.ensures.0 ∙ field-within s a.at flag_width (omega arith)))
