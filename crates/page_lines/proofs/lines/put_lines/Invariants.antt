-- `page_lines::lines::put_lines` meets its contract: after s turns the lines of the subjects below s are put.
-- Assumes nothing.
use Prim.Native.Nat.{◌≤◌}
use mathlib.Core.Path.{◌≡◌}
use Rattle.model.specs.State.{subject_count, object}
use Rattle.model.specs.Buffers.{put}
use Rattle.unit.specs.Rows.{state_in}
use Rattle.page_lines.specs.Lines.{lines}
use Rattle.page_lines.proofs.lines.put_lines.Given as goal

abbrev pub invariant-loop-s : goal.invariant-loop-s
invariant-loop-s l = (l.s ≤ subject_count) × (l.out ≡ put l.initial.out 0 (lines (object (state_in l.unit) l.o) l.s))
