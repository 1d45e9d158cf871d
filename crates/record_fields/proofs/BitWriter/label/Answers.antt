-- `record_fields::BitWriter::label` meets its contract: three fields, of 5, 8 and 8 bits, have the bits of the label's record.
-- Assumes nothing.
use mathlib.Core.Path.{refl, ◌∙◌}
use native.Mathlib.Omega.{arith}
use Rattle.bits.specs.Stream.{next, ends}
use Rattle.record_fields.proofs.Words.{three-parts}
use Rattle.record_fields.proofs.Streams.{left}
use Rattle.record_fields.proofs.BitWriter.label.Goals as goal

pub append-requires-2 : goal.append-requires-2
append-requires-2 c = (omega arith, left 5 8 c.append.ensures.wrote c.append.ensures.moves (omega arith, c.requires.1))

pub append-requires-3 : goal.append-requires-3
append-requires-3 c = (omega arith, left 8 8 c.append-2.ensures.wrote c.append-2.ensures.moves (left 5 16 c.append.ensures.wrote c.append.ensures.moves c.requires))

pub returns-clause-wrote : goal.returns-clause-wrote
returns-clause-wrote c =
    ends _ _ (three-parts c.label_word-word.result ∙ c.label_word-word.ensures) refl (next _ _ refl (next _ _ refl c.append.ensures.wrote c.append-2.ensures.wrote) c.append-3.ensures.wrote)
