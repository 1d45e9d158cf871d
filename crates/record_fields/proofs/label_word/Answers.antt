-- `record_fields::label_word` meets its contract.
-- Assumes nothing.
use mathlib.Core.Path.{sym, ap, ◌∙◌}
use Rattle.model.specs.Layout.{label_bits}
use Rattle.record_fields.proofs.Words.{absent-bits, present-bits}
use borrow.Author.Rules.{rules}
use Rattle.record_fields.proofs.label_word.Goals as goal

pub returns-in-None : goal.returns-in-None
returns-in-None c = absent-bits ∙ sym (ap label_bits c.in-None.is)

pub returns-in-Some : goal.returns-in-Some
returns-in-Some c = let head = c.side_by_side in
    rw c.from.ensures (present-bits c.in-Some.level head.result head.ensures (search rules) ∙ sym (ap label_bits c.in-Some.is))
