-- `page_lines::last::holders` meets its contract: after s turns the holders among the subjects below s are counted.
-- Assumes nothing.
use Prim.Native.Nat.{◌≤◌}
use mathlib.Core.Path.{◌≡◌}
use Rattle.bits.specs.Bits.{bit}
use Rattle.model.specs.Modes.{has}
use Rattle.model.specs.State.{subject_count, object, held_by}
use Rattle.unit.specs.Rows.{state_in}
use Rattle.orders.specs.Sums.{sum_below}
use Rattle.page_lines.proofs.last.holders.Given as goal

abbrev pub invariant-loop-s : goal.invariant-loop-s
invariant-loop-s l = (l.s ≤ subject_count) × (l.count ≤ l.s) × (l.count ≡ sum_below l.s (λ t. bit (has l.x (held_by (object (state_in l.unit) l.o) t))))
