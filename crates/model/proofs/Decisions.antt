-- Different answers have different numbers, and each is small.
-- Assumes nothing.
use Prim.Native.Nat.{ℕ, ◌<◌, ◌≤◌}
use native.Mathlib.Omega.{arith}
use mathlib.Core.Path.{◌≡◌, refl, sym, ap, ◌∙◌}
use mathlib.Core.Logic.{⊎_elim}
use mathlib.Core.List.{List, [], ◌∷◌}
use lib.ListN.{get_or, get_or-eq_default}
use Rattle.model.specs.declared.Decision.{Decision}
use Rattle.model.specs.declared.Decision.TheVariants.{Granted, Already, MalformedRequest, NotEnrolled, NotLive, AlreadyLive, NoRight, NoLabel, SimpleBroken, StarBroken, WrongLength, StrayBits, AbsentSubject, ShortBuffer, LabelLowered, ZeroSeed, OutsideProfile, EmptyJournal, WallBroken, ParentNotLive, HierarchyBroken}
use Rattle.model.specs.Decisions.{number}
use Rattle.model.proofs.Tests.{le-or-lt}

-- every answer, in the order of its number
decisions : List Decision
decisions =
    Granted
    ∷ Already
    ∷ MalformedRequest
    ∷ NotEnrolled
    ∷ NotLive
    ∷ AlreadyLive
    ∷ NoRight
    ∷ NoLabel
    ∷ SimpleBroken
    ∷ StarBroken
    ∷ WrongLength
    ∷ StrayBits
    ∷ AbsentSubject
    ∷ ShortBuffer
    ∷ LabelLowered
    ∷ ZeroSeed
    ∷ OutsideProfile
    ∷ EmptyJournal
    ∷ WallBroken
    ∷ ParentNotLive
    ∷ HierarchyBroken
    ∷ []

-- the answer of a number
of_number : ℕ → Decision
of_number k = get_or decisions k Granted

of_number-number : (d : Decision) → of_number (number d) ≡ d
unfolding of_number decisions
of_number-number Granted = refl
of_number-number Already = refl
of_number-number MalformedRequest = refl
of_number-number NotEnrolled = refl
of_number-number NotLive = refl
of_number-number AlreadyLive = refl
of_number-number NoRight = refl
of_number-number NoLabel = refl
of_number-number SimpleBroken = refl
of_number-number StarBroken = refl
of_number-number WrongLength = refl
of_number-number StrayBits = refl
of_number-number AbsentSubject = refl
of_number-number ShortBuffer = refl
of_number-number LabelLowered = refl
of_number-number ZeroSeed = refl
of_number-number OutsideProfile = refl
of_number-number EmptyJournal = refl
of_number-number WallBroken = refl
of_number-number ParentNotLive = refl
of_number-number HierarchyBroken = refl

pub number-inj : (d k : Decision) → number d ≡ number k → d ≡ k
number-inj d k e = sym (of_number-number d) ∙ ap of_number e ∙ of_number-number k

-- every number is below 64, so 128 and 192 may be added to it in a byte: a number past the list would be that of Granted, which is 0
pub number_small : (d : Decision) → number d < 64
unfolding of_number decisions
number_small d =
    ⊎_elim
    (λ (h : 64 ≤ number d).
    let e : number d ≡ 0 = ap number (sym (of_number-number d) ∙ get_or-eq_default decisions Granted {n = number d} (omega (arith, h))) in
    absurd (omega (arith, h, e)))
    (λ (h : number d < 64). h) (le-or-lt 64 (number d))
