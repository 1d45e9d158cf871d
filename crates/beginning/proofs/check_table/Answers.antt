-- `beginning::check_table` meets its contract: checks 10 and 11, the first that fails.
-- Assumes nothing.
use native.Mathlib.Omega.{arith}
use Rattle.beginning.proofs.Begun.{checks-answer}
use Rattle.beginning.proofs.check_table.Goals as goal

pub returns-in_err-ensure : goal.returns-in_err-ensure
returns-in_err-ensure c = grind (arith, checks-answer c.args.table.now)

pub returns : goal.returns
returns c = grind (arith, checks-answer c.args.table.now)
