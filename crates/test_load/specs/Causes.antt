-- Why there is no load, as a proposition with no test in it.
-- Assumes nothing.
use Rattle.std.specs.Prelude.{ℕ, ◌≡◌}
use Rattle.model.specs.declared.Decision.TheVariants.{ZeroSeed}
use Rattle.refusals.specs.First.{Causes, none, row}

-- "Refused: 15, seed 0"
abbrev pub load_causes : ℕ → Causes
load_causes seed = row ZeroSeed (seed ≡ 0) none
