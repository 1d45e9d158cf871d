-- "Access page" (change request §1): the page of an object as bytes, sixteen lines and a last one, and what is answered where there is none.
-- Assumes nothing.
use Rattle.std.specs.Prelude.{ℕ, Bool, not, cond, List, [], ◌∷◌, ◌++◌, ltb}
use Rattle.model.specs.declared.Object.{Object}
use Rattle.model.specs.declared.Monitor.{Monitor}
use Rattle.model.specs.declared.Decision.{Decision}
use Rattle.model.specs.declared.Decision.TheVariants.{MalformedRequest, NotLive, ShortBuffer}
use Rattle.model.specs.Tests.{first_failing}
use Rattle.model.specs.State.{subject_count, object_count, object}
use Rattle.model.specs.Decisions.{refuses}
use Rattle.model.specs.Buffers.{too_short, front}
use Rattle.page_lines.specs.Lines.{lines, last_line, page_size}

-- ---- the page

-- "sixteen lines", then "The last line"
unfoldable pub page : Object → List ℕ
page ob = lines ob subject_count ++ last_line ob

-- ---- a page into a lent buffer

-- "An object that isn't live gets 4, one above 63 gets 2, a buffer under the page's 258 bytes 13, in the order 2, 4, 13"
abbrev pub page_checks : Monitor → ℕ → List ℕ → List (Bool × Decision)
page_checks m o buffer =
    (ltb o object_count, MalformedRequest) ∷ ((object m o).live, NotLive) ∷ (not (too_short page_size buffer), ShortBuffer) ∷ []

-- "A page written returns 0"
unfoldable pub paging : Monitor → ℕ → List ℕ → Decision
paging m o buffer = first_failing (page_checks m o buffer)

-- refused, "the buffer is untouched"; "A page written .. leaves later bytes"
unfoldable pub paged : Monitor → ℕ → List ℕ → List ℕ
paged m o buffer = cond (refuses (paging m o buffer)) buffer (front page_size (page (object m o)) buffer)
