-- The rows of a monitor after a byte string and after a list of them.
-- Assumes nothing.
use Rattle.std.specs.Prelude.{ℕ, List, [], ◌∷◌, Some, None}
use Rattle.model.specs.Requests.{Decoded, decode}
use Rattle.unit.specs.Rows.{Rows, state_in}
use Rattle.kinds.specs.Carried.{carried}

-- what says nothing leaves every byte
abbrev pub asked_said : Decoded → Rows → Rows
asked_said None u = u
asked_said (Some q) u = carried q u

-- the rows after a byte string, which is read under their profile
unfoldable pub asked : List ℕ → Rows → Rows
asked b u = asked_said (decode (state_in u).profile b) u

-- "The first request gets the monitor just begun, each later one the monitor that the one before it left": the rows after a list
unfoldable pub asked_all : List (List ℕ) → Rows → Rows
asked_all [] u = u
asked_all (b ∷ bs) u = asked_all bs (asked b u)
