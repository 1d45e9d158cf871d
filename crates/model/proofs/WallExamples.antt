-- The wall from the words of change request §10: which gets and which company numbers 18 refuses, computed on small states.
-- Assumes nothing.
use Prim.Native.Nat.{ℕ}
use mathlib.Core.Path.{◌≡◌, refl}
use mathlib.Core.Bool.{true}
use mathlib.Core.List.{List, [], ◌∷◌, map}
use lib.ListN.{replicate}
use Rattle.model.specs.Levels.{Label, dominates, level_dominates, compare}
use Rattle.std.specs.Prelude.{Some, None}
use Rattle.model.specs.declared.Object.{Object}
use Rattle.model.specs.declared.Monitor.{Monitor}
use Rattle.model.specs.declared.Mode.{Mode}
use Rattle.model.specs.declared.Mode.TheVariants.{Read, Write, Append, Execute}
use Rattle.model.specs.declared.Request.TheVariants.{Get, SetCompanies}
use Rattle.model.specs.declared.Decision.{Decision}
use Rattle.model.specs.declared.Decision.TheVariants.{Granted, Already, NotEnrolled, NotLive, NoRight, StarBroken, WallBroken}
use Rattle.model.specs.Tests.{implies, unless}
use Rattle.model.specs.Modes.{has, add}
use Rattle.model.specs.Companies.{company, compatible, confined}
use Rattle.model.specs.State.{no_object, nobody, with_owner, with_label, with_companies, with_rows, with_object, fresh, widest}
use Rattle.model.specs.Requests.{creation}
use Rattle.model.specs.Hierarchy.{parent_live, label_under, labels_rise}
use Rattle.model.specs.Rules.{created, changed, already, checks, answer, step, star_pair, star_from, star_for, wall_pair, wall_from, wall_for, wall_all}

abbrev level : ℕ → Label
level class = Some (record { class = class; needs = 0 })

-- an object of subject 1 with company numbers, on which everybody has every right, and subject 1 holds a set
abbrev marked : Label → ℕ → ℕ → Object
marked label companies held =
    with_rows (with_companies (with_label (with_owner no_object 1) label) companies) (replicate 16 15) (0 ∷ held ∷ replicate 14 0)

-- subjects 0 and 1 have class 3; objects 0 and 1 are such objects, and subject 1 holds nothing on object 1
abbrev two : Label → ℕ → ℕ → Label → ℕ → Monitor
two a numbers held b others =
    with_object
    (with_object (fresh widest (record { clearance = level 3 } ∷ record { clearance = level 3 } ∷ replicate 14 nobody)) 0 (marked a numbers held))
    1 (marked b others 0)

-- subject 1 holds a set on an object of company 1 of the first class, and asks for a mode on one with other numbers, both of class 0
abbrev asks : ℕ → ℕ → Mode → Decision
asks held others x = checks (Get 1 1 x) (two (level 0) 0x1000 held (level 0) others)

-- the answers for each set held, r, w, a or e alone, and each mode asked for, r, w, a, e
abbrev by_modes : (ℕ → Mode → Decision) → List (List Decision)
by_modes f = map (λ (held : ℕ). map (f held) (Read ∷ Write ∷ Append ∷ Execute ∷ [])) (8 ∷ 4 ∷ 2 ∷ 1 ∷ [])

-- "For any two accesses held by one subject": another company of the class, whatever the two modes are, e too
pub any-two-accesses : by_modes (λ (held : ℕ). asks held 0x2000) ≡ replicate 4 (replicate 4 WallBroken)
unfolding checks changed has add implies unless star_for star_from star_pair wall_for wall_from wall_pair compatible confined company dominates level_dominates compare labels_rise label_under parent_live
any-two-accesses = refl

-- "each class has a 0 or equal numbers": the same company, none, and another company of another class
pub none-or-equal : (asks 8 0x1000 Read ≡ Granted) × (asks 8 0 Read ≡ Granted) × (asks 8 0x0200 Read ≡ Granted) × (asks 8 0x1200 Read ≡ Granted)
unfolding checks changed has add implies unless star_for star_from star_pair wall_for wall_from wall_pair compatible confined company dominates level_dominates compare labels_rise label_under parent_live
none-or-equal = (refl, refl, refl, refl)

-- "held by one subject": subject 0 holds nothing, and gets what subject 1 may not
pub by-one-subject : (checks (Get 0 1 Read) (two (level 0) 0x1000 8 (level 0) 0x2000) ≡ Granted)
unfolding checks changed has add implies unless star_for star_from star_pair wall_for wall_from wall_pair compatible confined company dominates level_dominates compare labels_rise label_under parent_live
by-one-subject = refl

-- "Where it holds r or w on P and a or w on Q, each nonzero number of P equals that of Q": it has P, of company 1, and asks for Q, of none
pub read-then-altered : by_modes (λ (held : ℕ). asks held 0)
    ≡ (Granted ∷ WallBroken ∷ WallBroken ∷ Granted ∷ [])
    ∷ (Granted ∷ WallBroken ∷ WallBroken ∷ Granted ∷ [])
    ∷ replicate 4 Granted
    ∷ replicate 4 Granted
    ∷ []
unfolding checks changed has add implies unless star_for star_from star_pair wall_for wall_from wall_pair compatible confined company dominates level_dominates compare labels_rise label_under parent_live
read-then-altered = refl

-- a number of another class does not do; the same number does, and a number more in another class does not matter
pub numbers-of-both : (asks 8 0x0300 Append ≡ WallBroken) × (asks 8 0x1000 Append ≡ Granted) × (asks 8 0x1300 Append ≡ Granted)
unfolding checks changed has add implies unless star_for star_from star_pair wall_for wall_from wall_pair compatible confined company dominates level_dominates compare labels_rise label_under parent_live
numbers-of-both = (refl, refl, refl)

-- the other way round: it has Q, of no company, and asks for P, of company 1
abbrev later : ℕ → Mode → Decision
later held x = checks (Get 1 1 x) (two (level 0) 0 held (level 0) 0x1000)

pub altered-then-read : by_modes later
    ≡ replicate 4 Granted
    ∷ (WallBroken ∷ WallBroken ∷ Granted ∷ Granted ∷ [])
    ∷ (WallBroken ∷ WallBroken ∷ Granted ∷ Granted ∷ [])
    ∷ replicate 4 Granted
    ∷ []
unfolding checks changed has add implies unless star_for star_from star_pair wall_for wall_from wall_pair compatible confined company dominates level_dominates compare labels_rise label_under parent_live
altered-then-read = refl

-- "18, .. checked last in get": star is asked before it
pub star-before-wall : (checks (Get 1 1 Append) (two (level 1) 0x1000 8 (level 0) 0x2000) ≡ StarBroken)
    × (checks (Get 1 1 Append) (two (level 1) 0x1000 8 (level 1) 0x2000) ≡ WallBroken)
unfolding checks changed has add implies unless star_for star_from star_pair wall_for wall_from wall_pair compatible confined company dominates level_dominates compare labels_rise label_under parent_live
star-before-wall = (refl, refl)

-- ---- kind 8

-- subject s sets the numbers of object 1, of which subject 1 is the owner; it holds e on both objects, which are of company 1
abbrev sets : ℕ → ℕ → ℕ → Decision
sets s o n = checks (SetCompanies s o n) (with_object (two None 0x1000 1 None 0) 1 (marked None 0x1000 1))

-- "checks 4, 6 (owner) and the wall over all subjects in the state after it"; an unlabelled object may have numbers
pub owner-sets : (sets 1 1 0x1234 ≡ Granted) × (sets 1 1 0 ≡ Granted) × (sets 0 1 0 ≡ NoRight) × (sets 1 2 0 ≡ NotLive) × (sets 2 1 0 ≡ NotEnrolled)
    × (sets 1 1 0x2000 ≡ WallBroken)
unfolding checks changed has add implies unless wall_all wall_for wall_from wall_pair compatible confined company labels_rise label_under parent_live
owner-sets = (refl, refl, refl, refl, refl, refl)

-- subject 1 is the owner, and subject 0 holds r on both objects: another subject than the actor counts
pub all-subjects-count : checks (SetCompanies 1 1 0x2000)
    (with_object (with_object (two (level 0) 0 0 (level 0) 0) 0 (with_rows (marked (level 0) 0x1000 0) (replicate 16 15) (8 ∷ replicate 15 0))) 1
    (with_rows (marked (level 0) 0 0) (replicate 16 15) (8 ∷ replicate 15 0)))
    ≡ WallBroken
unfolding checks changed has add implies unless wall_all wall_for wall_from wall_pair compatible confined company labels_rise label_under parent_live
all-subjects-count = refl

-- "they are 0 at creation"; the numbers become those; the same again is 1; nothing else of the record changes
pub numbers-set : ((created 1 (creation true 0)).companies ≡ 0)
    × (changed (SetCompanies 1 1 0x1234) (marked (level 2) 0x1000 8) ≡ marked (level 2) 0x1234 8)
    × ((step (SetCompanies 1 1 0x1000) (two None 0x1000 1 None 0x1000)).decision ≡ Already)
    × ((step (SetCompanies 1 1 0x1001) (two None 0x1000 1 None 0x1000)).decision ≡ Granted)
unfolding checks changed already answer step has add implies unless wall_all wall_for wall_from wall_pair compatible confined company labels_rise label_under parent_live
numbers-set = (refl, refl, refl, refl)
