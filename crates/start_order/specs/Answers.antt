-- When the order of a list matters ("Start order of tasks", change request §6), as an answer for any pieces: too many, one that is no
-- get, the first two gets that clash, or none.
-- Assumes nothing.
use Rattle.std.specs.Prelude.{ℕ, ◌<◌, Bool, false, cond, not, ◌&&◌, List, [], length, get_or, eqb, ltb, Option, Some, None, is_none}
use Rattle.model.specs.declared.Profile.{Profile}
use Rattle.model.specs.declared.Monitor.{Monitor}
use Rattle.model.specs.declared.Mode.{Mode}
use Rattle.model.specs.declared.Request.{Request}
use Rattle.model.specs.declared.Request.TheVariants.{Get, Release, Give, Rescind, Create, Delete, ChangeLevel, SetCompanies}
use Rattle.model.specs.Requests.{Decoded, decode}
use Rattle.model.specs.State.{subject_count, object_count, object}
use Rattle.model.specs.Companies.{wall_kept}
use Rattle.model.specs.ModePairs.{entry, kept}
use Rattle.model.specs.Decisions.{refuses}
use Rattle.model.specs.Rules.{step}
use Rattle.start_order.specs.declared.StartOrder.{StartOrder}
use Rattle.start_order.specs.declared.StartOrder.TheVariants.{Agree, Clash, NoGet, TooMany}
use Rattle.start_order.specs.declared.wanted.Access.{Access}
use Rattle.start_order.specs.First.{first_below}

-- ---- one get

-- an access, or none
abbrev pub Wanted : Type 0
Wanted = Option Access

abbrev pub access : ℕ → ℕ → Mode → Wanted
access s o x = Some (record { subject = s; object = o; mode = x })

-- the access that a get asks for; what is no get asks for nothing
abbrev pub wanted_of : Request → Wanted
wanted_of (Get s o x) = access s o x
wanted_of (Release s o x) = None
wanted_of (Give s t o x) = None
wanted_of (Rescind s t o x) = None
wanted_of (Create s o c) = None
wanted_of (Delete s o) = None
wanted_of (ChangeLevel s o l) = None
wanted_of (SetCompanies s o n) = None

abbrev pub wanted_by : Decoded → Wanted
wanted_by None = None
wanted_by (Some q) = wanted_of q

-- as bytes say it to a monitor of a profile
unfoldable pub wanted : Profile → List ℕ → Wanted
wanted p b = wanted_by (decode p b)

-- the numbers of a subject below 16 and of an object below 64
unfoldable pub Fits : Wanted → Type 0
Fits (Some a) = (a.subject < subject_count) × (a.object < object_count)
Fits None = Unit {0}

-- "granted if it came alone"
unfoldable pub alone : Monitor → Wanted → Bool
alone m (Some a) = not (refuses (step (Get a.subject a.object a.mode) m).decision)
alone m None = false

-- ---- two gets

-- "would together break star or wall" (change request §10): accesses of one subject, of which the labels do not keep what the table of mode
-- pairs asks, or the company numbers what the wall does
unfoldable pub breaks : Monitor → Wanted → Wanted → Bool
breaks m None w = false
breaks m (Some v) None = false
breaks m (Some v) (Some w) =
    eqb v.subject w.subject
    && not (kept (entry v.mode w.mode) (object m v.object).label (object m w.object).label
    && wall_kept v.mode w.mode (object m v.object).companies (object m w.object).companies)

-- "two of its gets, each granted alone, would together break star or wall"
unfoldable pub clashes : Monitor → List ℕ → List ℕ → Bool
clashes m b c = alone m (wanted m.profile b) && (alone m (wanted m.profile c) && breaks m (wanted m.profile b) (wanted m.profile c))

-- ---- a list

-- the most pieces that are looked at
abbrev pub most_pieces : ℕ
most_pieces = 4096

-- the place of the first piece that is no get, or the length
abbrev pub first_other : Profile → List (List ℕ) → ℕ
first_other p bs = first_below (length bs) (λ i. is_none (wanted p (get_or bs i [])))

-- the place of the first get behind i that clashes with the one at i, or the length
abbrev pub partner : Monitor → List (List ℕ) → ℕ → ℕ
partner m bs i = first_below (length bs) (λ j. ltb i j && clashes m (get_or bs i []) (get_or bs j []))

-- the place of the first get that has such a partner, or the length
abbrev pub first_with : Monitor → List (List ℕ) → ℕ
first_with m bs = first_below (length bs) (λ i. ltb (partner m bs i) (length bs))

unfoldable pub first_clash : Monitor → List (List ℕ) → StartOrder
first_clash m bs =
    cond (ltb (first_with m bs) (length bs)) (Clash (first_with m bs) (partner m bs (first_with m bs))) Agree

-- the answer: too many before any is looked at, then a piece that is no get, then two that clash
unfoldable pub start_order : List (List ℕ) → Monitor → StartOrder
start_order bs m =
    cond (ltb most_pieces (length bs)) TooMany
    (cond (ltb (first_other m.profile bs) (length bs)) (NoGet (first_other m.profile bs)) (first_clash m bs))
