-- The rows of a unit after a deletion, with everything below the object.
-- Assumes nothing.
use Rattle.std.specs.Prelude.{ℕ, suc, ◌*◌, ◌%◌, Bool, cond, ◌&&◌, ◌||◌, List, length, eqb, ltb}
use Rattle.model.specs.declared.Object.{Object}
use Rattle.model.specs.State.{object_count, no_modes}
use Rattle.model.specs.Hierarchy.{below}
use Rattle.unit.specs.Rows.{Rows, row_at, tabulate, objects_in}

-- the object is live and has o as its parent
abbrev pub child_of : Object → ℕ → Bool
child_of ob o = ob.live && eqb ob.parent (suc o)

-- object y goes with o: it is o, or below o
abbrev pub gone : List Object → ℕ → ℕ → Bool
gone l o y = eqb y o || below l o y

-- row i after the deletion of object o: the three rows of each object that goes are sixteen zeros, every other row is as it was
abbrev pub row_left : Rows → ℕ → ℕ → List ℕ
row_left u o i = cond (ltb i (3 * object_count) && gone (objects_in u) o (i % object_count)) no_modes (row_at u i)

-- as many rows as there were
unfoldable pub removed : Rows → ℕ → Rows
removed u o = tabulate (length u) (row_left u o)
