-- The wall for the subjects from one on to below another: one subject in get, all in an image and where company numbers are set.
-- Assumes nothing.
use Rattle.std.specs.Prelude.{ℕ, Bool, List}
use Rattle.model.specs.declared.Object.{Object}
use Rattle.model.specs.Rules.{wall_for}
use Rattle.star.specs.Between.{between}

abbrev pub wall_between : ℕ → ℕ → List Object → Bool
wall_between low high l = between low high (λ (s : ℕ). wall_for s l)
