-- `journaled::deletes` meets its contract.
-- Assumes nothing.
use mathlib.Core.Path.{ap, ◌∙◌}
use lib.Dec.{eqb}
use borrow.Author.Tests.{eq-eqb, ne_eqb}
use Rattle.model.specs.declared.Fields.{Fields}
use Rattle.decoding.specs.Word.{fields_of_word}
use Rattle.decoding.proofs.Word.{fields-word}
use Rattle.journaled.specs.Units.{deletes}
use Rattle.journaled.proofs.deletes.Goals as goal

pub returns-then-bytes-ne6 : goal.returns-then-bytes-ne6
unfolding deletes
returns-then-bytes-ne6 c = rw (ne_eqb _ _ c.if-bytes-ne6.true)

pub returns : goal.returns
unfolding deletes
returns c = rw (eq-eqb _ _ c.if-bytes-ne6.false)
    (ap (λ (f : Fields). eqb f.kind 6) (c.fields_of-f.ensures ∙ ap fields_of_word c.read_word.ensures.0 ∙ fields-word _))
