-- `unit::whole::object_in` meets its contract.
-- Assumes nothing.
use mathlib.Core.Path.{◌∙◌}
use Rattle.unit.proofs.Readings.{read-object}
use Rattle.unit.proofs.whole.object_in.Goals as goal

pub returns : goal.returns
returns c = let start = c in c.object_of.ensures ∙ read-object start.args.unit.now start.args.o start.requires.o_lt_object_count
