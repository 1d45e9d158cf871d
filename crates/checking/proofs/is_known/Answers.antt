-- `checking::is_known` meets its contract.
-- Assumes nothing.
use mathlib.Core.Path.{sym, ap}
use native.Mathlib.Omega.{arith}
use Rattle.model.specs.declared.Subject.{Subject}
use Rattle.model.specs.Levels.{present}
use Rattle.model.specs.State.{nobody}
use Rattle.model.proofs.Tests.{beyond}
use Rattle.unit.specs.Rows.{subject_in, subjects_in}
use Rattle.unit.proofs.Tabulated.{tabulate-length}
use Rattle.checking.proofs.is_known.Goals as goal

pub returns : goal.returns
returns c = let a = c.args in
    ap (λ (x : Subject). present x.clearance) (sym (beyond (subjects_in a.unit.now) a.s nobody (omega (arith, c.if-s-lt-SUBJECTS.false, tabulate-length 16 (subject_in a.unit.now)))))
