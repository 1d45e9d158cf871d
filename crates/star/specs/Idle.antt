-- Rows of held accesses that cannot matter to a star check.
-- Assumes nothing.
use Rattle.std.specs.Prelude.{ℕ, ◌+◌, min, Bool, cond, not, List, eqb, get_or}
use Rattle.model.specs.Tests.{all_below}
use Rattle.model.specs.Modes.{any_needs_label}
use Rattle.model.specs.State.{subject_count}

-- subject s holds none of r, w and a
abbrev pub free : List ℕ → ℕ → Bool
free row s = not (any_needs_label (get_or row s 0))

unfoldable pub nothing_held : List ℕ → Bool
nothing_held row = all_below subject_count (free row)

-- nobody from low to below end holds one of them: where that is one subject, by its set, else by the whole row
unfoldable pub idle : List ℕ → ℕ → ℕ → Bool
idle row low end = cond (eqb (min low 15 + 1) end) (free row (min low 15)) (nothing_held row)
