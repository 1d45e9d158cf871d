-- The number of the fields, and its bytes.
-- Assumes nothing.
use mathlib.Core.Path.{ap, ◌∙◌}
use Rattle.encoding.specs.Word.{word_bytes}
use Rattle.encoding.proofs.Word.{word-pack}
use Rattle.encoding.proofs.pack.Goals as goal

pub returns : goal.returns
returns c = c.bytes_of.ensures ∙ ap (word_bytes 6) c.word_of.ensures ∙ word-pack c.args.f
