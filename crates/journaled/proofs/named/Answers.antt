-- `journaled::named` meets its contract.
-- Assumes nothing.
use mathlib.Core.Path.{ap, ◌∙◌}
use Prim.Native.Nat.{◌%◌}
use borrow.Author.Tests.{eq-eqb, ne_eqb}
use Rattle.model.specs.declared.Fields.{Fields}
use Rattle.decoding.specs.Word.{fields_of_word}
use Rattle.decoding.proofs.Word.{fields-word}
use Rattle.journaled.specs.Units.{named}
use Rattle.journaled.proofs.named.Goals as goal

pub returns-then-bytes-ne6-clause-object : goal.returns-then-bytes-ne6-clause-object
unfolding named
returns-then-bytes-ne6-clause-object c = rw (ne_eqb _ _ c.if-bytes-ne6.true)

pub returns-clause-object : goal.returns-clause-object
unfolding named
returns-clause-object c = rw (eq-eqb _ _ c.if-bytes-ne6.false)
    (ap (λ (f : Fields). f.object % 64) (c.fields_of-f.ensures ∙ ap fields_of_word c.read_word.ensures.0 ∙ fields-word _))
