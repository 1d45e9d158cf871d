-- The four answers of a comparison as numbers (change request §2; the numbers are the interface's).
-- Assumes nothing.
use Rattle.std.specs.Prelude.{ℕ}
use Rattle.model.specs.declared.Comparison.{Comparison}
use Rattle.model.specs.declared.Comparison.TheVariants.{Equal, Above, Below, Apart}

-- "equal, above (only A dominates), below (only B does) or apart (neither)"
abbrev pub comparison_number : Comparison → ℕ
comparison_number Equal = 0
comparison_number Above = 1
comparison_number Below = 2
comparison_number Apart = 3
