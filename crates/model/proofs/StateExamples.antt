-- What a reader of the numbers of answers, of no object and of the empty monitor finds, at every subject and object.
-- Assumes nothing.
use Prim.Native.Nat.{ℕ}
use mathlib.Core.Path.{◌≡◌, refl, ap}
use mathlib.Core.Bool.{false}
use mathlib.Core.List.{List, [], ◌∷◌, map}
use Rattle.std.specs.Prelude.{None}
use Rattle.model.specs.declared.Subject.{Subject}
use Rattle.model.specs.declared.Profile.{Profile}
use Rattle.model.specs.declared.Object.{Object}
use Rattle.model.specs.declared.Decision.TheVariants.{Granted, Already, MalformedRequest, NotEnrolled, NotLive, AlreadyLive, NoRight, NoLabel, SimpleBroken, StarBroken, WrongLength, StrayBits, AbsentSubject, ShortBuffer, LabelLowered, ZeroSeed, OutsideProfile, EmptyJournal, WallBroken, ParentNotLive, HierarchyBroken}
use Rattle.model.specs.Levels.{present}
use Rattle.model.specs.State.{nobody, no_object, clearance_at, clearance, enrolled, object, rights_of, held_by, fresh, empty_monitor}
use Rattle.model.specs.Decisions.{number}
use Rattle.model.proofs.Tests.{replicate-at}

-- "Reply 0", "Reply 1", and the numbers of "Refused causes" from 2 to 13, in the order of its rows; the numbers of the change requests behind them
pub every-number : map number
    (Granted ∷ Already
    ∷ MalformedRequest ∷ NotEnrolled ∷ NotLive ∷ AlreadyLive ∷ NoRight ∷ NoLabel ∷ SimpleBroken ∷ StarBroken
    ∷ WrongLength ∷ StrayBits ∷ AbsentSubject ∷ ShortBuffer
    ∷ LabelLowered ∷ ZeroSeed ∷ OutsideProfile ∷ EmptyJournal ∷ WallBroken ∷ ParentNotLive ∷ HierarchyBroken ∷ [])
    ≡ 0 ∷ 1 ∷ 2 ∷ 3 ∷ 4 ∷ 5 ∷ 6 ∷ 7 ∷ 8 ∷ 9 ∷ 10 ∷ 11 ∷ 12 ∷ 13 ∷ 14 ∷ 15 ∷ 16 ∷ 17 ∷ 18 ∷ 19 ∷ 20 ∷ []
every-number = refl

-- "An object that isn't live has no owner, label, right or access", nor a company number or a parent
pub no-object-has-nothing : (no_object.live ≡ false) × (no_object.label ≡ None) × (no_object.companies ≡ 0) × (no_object.parent ≡ 0) × ((s : ℕ) → rights_of no_object s ≡ 0) × ((s : ℕ) → held_by no_object s ≡ 0)
no-object-has-nothing = (refl, refl, refl, refl, replicate-at 0 16, replicate-at 0 16)

-- "begun fresh from an enrolment table with no live object"
pub fresh-has-no-object : (p : Profile) (l : List Subject) (o : ℕ) → (object (fresh p l) o).live ≡ false
fresh-has-no-object p l o = ap (λ (ob : Object). ob.live) (replicate-at no_object 64 o)

pub fresh-has-its-table : (p : Profile) (l : List Subject) (s : ℕ) → clearance (fresh p l) s ≡ clearance_at l s
fresh-has-its-table p l s = refl

-- "the empty monitor, nobody enrolled", and so with no live object
pub empty-enrols-nobody : (s : ℕ) → enrolled empty_monitor s ≡ false
empty-enrols-nobody s = ap (λ (p : Subject). present p.clearance) (replicate-at nobody 16 s)

pub empty-has-no-object : (o : ℕ) → (object empty_monitor o).live ≡ false
empty-has-no-object o = ap (λ (ob : Object). ob.live) (replicate-at no_object 64 o)
