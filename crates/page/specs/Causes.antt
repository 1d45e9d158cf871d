-- Why there is no page, as propositions with no test in them.
-- Assumes nothing.
use Rattle.std.specs.Prelude.{ℕ, ◌<◌, ◌≢◌, true, List, length}
use Rattle.model.specs.declared.Monitor.{Monitor}
use Rattle.model.specs.declared.Decision.TheVariants.{MalformedRequest, NotLive, ShortBuffer}
use Rattle.model.specs.State.{object}
use Rattle.refusals.specs.First.{Causes, none, row}

-- "An object that isn't live gets 4, one above 63 gets 2, a buffer under the page's 258 bytes 13, in the order 2, 4, 13"
abbrev pub page_causes : Monitor → ℕ → List ℕ → Causes
page_causes m o buffer =
    row MalformedRequest (63 < o)
    (row NotLive ((object m o).live ≢ true)
    (row ShortBuffer (length buffer < 258)
    none))
