-- `test_load::xorshift::Generator::next` meets its contract.
-- Assumes nothing.
use mathlib.Core.Path.{refl}
use Rattle.test_load.specs.Generator.{xorshift}
use Rattle.test_load.proofs.xorshift.Generator.next.Goals as goal

pub returns : goal.returns
unfolding xorshift
returns c = (refl, refl)
