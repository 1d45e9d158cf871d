-- A test of the subjects from one on to below another, and the star property so: of one subject in get, of all in change of level and in an image.
-- Assumes nothing.
use Rattle.std.specs.Prelude.{ℕ, Bool, ◌&&◌, List, leb, ltb}
use Rattle.model.specs.declared.Object.{Object}
use Rattle.model.specs.Tests.{all_below, implies}
use Rattle.model.specs.State.{subject_count}
use Rattle.model.specs.Rules.{star_for}

-- a test passes at each subject from low to below high
unfoldable pub between : ℕ → ℕ → (ℕ → Bool) → Bool
between low high f = all_below subject_count (λ (s : ℕ). implies (leb low s && ltb s high) (f s))

abbrev pub star_between : ℕ → ℕ → List Object → Bool
star_between low high l = between low high (λ (s : ℕ). star_for s l)
