-- The fields of the first 48 bits, where there are six bytes.
-- Assumes nothing.
use mathlib.Core.Path.{ap, ◌∙◌}
use borrow.Author.Tests.{eq-eqb}
use Rattle.model.specs.Requests.{decode_fields, decode}
use Rattle.decoding.specs.Word.{fields_of_word}
use Rattle.decoding.proofs.Word.{fields-word}
use Rattle.decoding.proofs.decode.Goals as goal

pub returns : goal.returns
unfolding decode
returns c = rw (eq-eqb _ _ c.if-b-ne6.false)
    (c.decode_fields.ensures
    ∙ ap (decode_fields c.args.p) (c.fields_of.ensures ∙ ap fields_of_word c.read_word.ensures.0 ∙ fields-word _))
