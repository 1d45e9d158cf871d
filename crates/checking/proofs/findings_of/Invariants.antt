-- `checking::findings_of` meets its contract.
-- Assumes nothing.
use Prim.Native.Nat.{ℕ, ◌≤◌}
use mathlib.Core.Path.{◌≡◌}
use mathlib.Core.Bool.{Bool, true}
use Rattle.model.specs.State.{clearance, object, rights_of, held_by}
use Rattle.unit.specs.Rows.{Rows, state_in}
use Rattle.checking.specs.declared.Findings.{Findings}
use Rattle.checking.specs.Checks.{both, at}
use Rattle.checking.proofs.Passes.{below}
use Rattle.checking.proofs.findings_of.Given as goal

abbrev pub begins : Bool → Findings
begins b = record { enrolled = b; matrix = true; labelled = true; simple = true }

abbrev pub at_subject : Rows → ℕ → ℕ → Findings
at_subject u o s = at (clearance (state_in u) s) (object (state_in u) o).label (rights_of (object (state_in u) o) s) (held_by (object (state_in u) o) s)

abbrev pub invariant-loop-s : goal.invariant-loop-s
invariant-loop-s l = (l.s ≤ 16) × (l.found ≡ both (begins l.owned) (below l.s (at_subject l.unit l.o)))
