-- The number of each answer ("Reply 0", "Reply 1" and "Refused causes" in the scope).
-- Assumes nothing.
use Rattle.std.specs.Prelude.{ℕ, Bool, cond, leb, Result, Ok, Err}
use Rattle.model.specs.declared.Decision.{Decision}
use Rattle.model.specs.declared.Decision.TheVariants.{Granted, Already, MalformedRequest, NotEnrolled, NotLive, AlreadyLive, NoRight, NoLabel, SimpleBroken, StarBroken, WrongLength, StrayBits, AbsentSubject, ShortBuffer, LabelLowered, ZeroSeed, OutsideProfile, EmptyJournal, WallBroken, ParentNotLive, HierarchyBroken}

abbrev pub number : Decision → ℕ
-- "granted and the state changed"; "An accepted table or image returns 0", "a writing returns 0"
number Granted = 0
-- "granted and the state was so already"
number Already = 1
-- "request not 6 bytes; kind not 1 to 7", nor 8 of change request §10, "..; an unused field not 0"; of a page: an object "above 63"
number MalformedRequest = 2
-- "actor, or in kinds 3 and 4 the other subject, not enrolled"
number NotEnrolled = 3
-- "object not live"; of a page: "An object that isn't live"
number NotLive = 4
-- "create on a live object"
number AlreadyLive = 5
-- "right or ownership missing; image: access outside the matrix"
number NoRight = 6
-- "no label; image: r, w or a held on such an object"
number NoLabel = 7
-- "simple property would break; image: is broken"
number SimpleBroken = 8
-- "star property would break; image: is broken"
number StarBroken = 9
-- "table or image of another length"
number WrongLength = 10
-- "an absent table record, object record or label with another of its own bits set"
number StrayBits = 11
-- "an absent subject owns, has a right or holds"
number AbsentSubject = 12
-- "buffer under the image's size"; of a page: "a buffer under the page's 258 bytes"
number ShortBuffer = 13
-- "a new label that does not dominate the old" (change request §3)
number LabelLowered = 14
-- of a test load: "Refused: 15, seed 0" (change request §5)
number ZeroSeed = 15
-- "16, a profile outside these ranges, .. or a table or image with a clearance or label outside its profile" (change request §8)
number OutsideProfile = 16
-- of a taking-back: "Refused: 17, an empty journal" (change request §9)
number EmptyJournal = 17
-- "Refused: 18, the wall would break" (change request §10); image: is broken
number WallBroken = 18
-- "19, a parent that isn't live, .. where parent bits above 64 or a chain of parents that does not end counts too" (change request §11)
number ParentNotLive = 19
-- "20, a label that breaks the rule toward parent or child" (change request §11)
number HierarchyBroken = 20

-- every number from 2 on is a refusal
abbrev pub refuses : Decision → Bool
refuses d = leb 2 (number d)

-- an answer as code hands it on: nothing where it is no refusal, else the refusal
unfoldable pub checked : Decision → Result (Unit {0}) Decision
checked d = cond (refuses d) (Err d) (Ok tt)

-- and its number: 0 where nothing was refused
abbrev pub checked_number : Result (Unit {0}) Decision → ℕ
checked_number (Ok x) = 0
checked_number (Err d) = number d
