-- The comparison of two levels as C has it (change request §2).
-- Assumes nothing.
use Rattle.std.specs.Prelude.{ℕ}
use Rattle.model.specs.declared.Level.{Level}
use Rattle.model.specs.Levels.{compare}
use Rattle.numbers.specs.Comparing.{comparison_number}

-- a class and a set of needs as they are handed over, also a class above 15
abbrev pub handed : ℕ → ℕ → Level
handed class needs = record { class = class; needs = needs }

-- "Comparing label A with label B"
unfoldable pub compared : ℕ → ℕ → ℕ → ℕ → ℕ
compared class-a needs-a class-b needs-b = comparison_number (compare (handed class-a needs-a) (handed class-b needs-b))
