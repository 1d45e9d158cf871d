-- `start_order::wanted::access_in` meets its contract.
-- Assumes nothing.
use mathlib.Core.Path.{ap, ◌∙◌}
use borrow.Author.Tests.{eq-eqb, ne_eqb}
use Rattle.model.specs.declared.Fields.{Fields}
use Rattle.model.specs.Requests.{decode_fields, decode}
use Rattle.decoding.specs.Word.{fields_of_word}
use Rattle.decoding.proofs.Word.{fields-word}
use Rattle.start_order.specs.Answers.{wanted_by, wanted}
use Rattle.start_order.proofs.wanted.access_in.Goals as goal

pub returns-then-b-ne6 : goal.returns-then-b-ne6
unfolding wanted decode
returns-then-b-ne6 c = rw (ne_eqb _ _ c.if-b-ne6.true)

pub returns : goal.returns
unfolding wanted decode
returns c = rw (eq-eqb _ _ c.if-b-ne6.false)
    (c.access_of.ensures
    ∙ ap (λ (f : Fields). wanted_by (decode_fields c.args.p f)) (c.fields_of.ensures ∙ ap fields_of_word c.read_word.ensures.0 ∙ fields-word _))
