-- What the wall asks about objects, all of them or those in a list; `at` has the record of each number.
-- Assumes nothing.
use Rattle.std.specs.Prelude.{ℕ, Bool, List, get_or, eqb}
use Rattle.model.specs.declared.Object.{Object}
use Rattle.model.specs.Tests.{all_below}
use Rattle.model.specs.Modes.{any_held}
use Rattle.model.specs.State.{object_count, object_at, held_by}
use Rattle.star.specs.Lists.{read_by, altered_by}

-- all four numbers of an object are 0
abbrev pub unmarked : List Object → ℕ → Bool
unmarked l o = eqb (object_at l o).companies 0

unfoldable pub no_companies : List Object → Bool
no_companies l = all_below object_count (unmarked l)

-- subject s holds a mode at the object, e too
abbrev pub accessed_by : ℕ → (ℕ → Object) → ℕ → Bool
accessed_by s at k = any_held (held_by (at k) s)

-- of the object that is listed at j: its four numbers, and whether subject s reads or alters it
abbrev pub numbers_at : (ℕ → Object) → List ℕ → ℕ → ℕ
numbers_at at a j = (at (get_or a j 0)).companies

abbrev pub read_at : ℕ → (ℕ → Object) → List ℕ → ℕ → Bool
read_at s at a j = read_by s at (get_or a j 0)

abbrev pub altered_at : ℕ → (ℕ → Object) → List ℕ → ℕ → Bool
altered_at s at a j = altered_by s at (get_or a j 0)
