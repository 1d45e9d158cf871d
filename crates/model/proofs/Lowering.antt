-- No lowering (change request §3): what the test of a change of level means, and what the rules answer by it.
-- Assumes nothing.
use Prim.Native.Nat.{ℕ}
use mathlib.Core.Path.{◌≡◌, refl, ap}
use mathlib.Core.Logic.{◌↔◌, ◌≢◌, ◌⊎◌, inl, inr}
use mathlib.Core.Bool.{Bool, true, false}
use mathlib.Core.List.{List, [], ◌∷◌}
use lib.ListN.{replicate}
use Rattle.model.specs.declared.Level.{Level}
use Rattle.model.specs.Levels.{Label, Dominates, dominates, level_dominates, compare, present}
use Rattle.std.specs.Prelude.{Some, None}
use Rattle.model.specs.declared.Object.{Object}
use Rattle.model.specs.declared.Monitor.{Monitor}
use Rattle.model.specs.declared.Request.TheVariants.{ChangeLevel}
use Rattle.model.specs.declared.Decision.{Decision}
use Rattle.model.specs.declared.Decision.TheVariants.{Granted, NotEnrolled, NotLive, NoRight, SimpleBroken, StarBroken, LabelLowered, HierarchyBroken}
use Rattle.model.specs.Tests.{implies, unless, first_failing}
use Rattle.model.specs.Modes.{has}
use Rattle.model.specs.Companies.{company, compatible, confined}
use Rattle.model.specs.State.{no_object, nobody, enrolled, object, with_owner, with_label, with_rows, with_object, fresh, widest}
use Rattle.model.specs.Hierarchy.{parent_live, label_under, labels_rise}
use Rattle.model.specs.Rules.{owns, not_lowered, changed, afterwards, checks, simple_all, star_pair, star_from, star_for, star_all, wall_pair, wall_from, wall_for}
use Rattle.model.proofs.Tests.{clash}
use Rattle.model.proofs.Levels.{dominates-decides, dominates-refl}

-- ---- what the test means

-- "A change of level on a labelled object passes only if the new label dominates the old one", and where it does
pub not-lowered-decides : (old new : Label) → (not_lowered old new ≡ true) ↔ (old ≢ None → Dominates new old)
unfolding not_lowered implies
not-lowered-decides None new = (λ e h. absurd (h refl), λ d. refl)
not-lowered-decides (Some a) new = (
  λ e h. (dominates-decides new (Some a)).0 e,
  λ d. (dominates-decides new (Some a)).1 (d (λ e. clash (ap present e))),
)

-- "a first label is free"
pub first-label-free : (new : Label) → not_lowered None new ≡ true
unfolding not_lowered implies
first-label-free new = refl

-- "the same label" passes
pub same-label-passes : (a : Label) → not_lowered a a ≡ true
same-label-passes a = (not-lowered-decides a a).1 (dominates-refl a)

-- ---- the check beside those that there were

-- the checks of a change of level without it
abbrev change_before : ℕ → ℕ → Level → Monitor → List (Bool × Decision)
change_before s o l m =
    (enrolled m s, NotEnrolled)
    ∷ ((object m o).live, NotLive)
    ∷ (owns s (object m o), NoRight)
    ∷ (simple_all m.subjects (changed (ChangeLevel s o l) (object m o)), SimpleBroken)
    ∷ (star_all (afterwards (ChangeLevel s o l) m).objects, StarBroken)
    ∷ (labels_rise (afterwards (ChangeLevel s o l) m).objects, HierarchyBroken)
    ∷ []

-- one check more, behind three: its answer, or what was answered without it
one_more : (a b c n : Bool) (i j k d later : Decision)
    → (unless a i (unless b j (unless c k (unless n d later))) ≡ d)
    ⊎ (unless a i (unless b j (unless c k (unless n d later))) ≡ unless a i (unless b j (unless c k later)))
unfolding unless
one_more false b c n i j k d later = inr refl
one_more true false c n i j k d later = inr refl
one_more true true false n i j k d later = inr refl
one_more true true true true i j k d later = inr refl
one_more true true true false i j k d later = inl refl

-- on every monitor a change of level is answered 14, or as it was
pub fourteen-or-as-before : (s o : ℕ) (l : Level) (m : Monitor)
    → (checks (ChangeLevel s o l) m ≡ LabelLowered) ⊎ (checks (ChangeLevel s o l) m ≡ first_failing (change_before s o l m))
unfolding checks labels_rise label_under parent_live
fourteen-or-as-before s o l m =
    one_more (enrolled m s) (object m o).live (owns s (object m o)) (not_lowered (object m o).label (Some l)) NotEnrolled NotLive NoRight LabelLowered _

-- ---- what the rules answer

abbrev level : ℕ → ℕ → Level
level class needs = record { class = class; needs = needs }

-- an object of subject 1 with this label, on which subjects 0 and 1 hold the sets
abbrev trace : Label → ℕ → ℕ → Object
trace label held0 held1 = with_rows (with_label (with_owner no_object 1) label) (15 ∷ 15 ∷ replicate 14 0) (held0 ∷ held1 ∷ replicate 14 0)

-- subject 0 has (1, 0001), subject 1 (3, 0003); object 0 is such an object, object 1 another one with (1, 0001), on which subject 1 holds a set
abbrev state : Label → ℕ → ℕ → ℕ → Monitor
state label held0 held1 other =
    with_object
    (with_object (fresh widest (record { clearance = Some (level 1 1) } ∷ record { clearance = Some (level 3 3) } ∷ replicate 14 nobody)) 0 (trace label held0 held1))
    1 (trace (Some (level 1 1)) 0 other)

-- its owner asks for a new label of object 0 that nobody holds
abbrev changes : Label → ℕ → ℕ → Decision
changes label class needs = checks (ChangeLevel 1 0 (level class needs)) (state label 0 0 0)

-- "An owner could take a heat trace from class 3 to class 0 and publish it. Operators no longer allow this."
pub no-publishing : (changes (Some (level 3 0)) 0 0 ≡ LabelLowered) × (changes (Some (level 3 1)) 0 0 ≡ LabelLowered)
unfolding checks changed not_lowered unless implies has dominates level_dominates compare simple_all star_all star_for star_from star_pair wall_for wall_from wall_pair compatible confined company labels_rise label_under parent_live
no-publishing = (refl, refl)

-- one class less, one need less, and labels apart in both directions
pub neither-part-falls : (changes (Some (level 2 1)) 1 1 ≡ LabelLowered) × (changes (Some (level 2 3)) 2 1 ≡ LabelLowered)
    × (changes (Some (level 2 1)) 3 2 ≡ LabelLowered) × (changes (Some (level 2 1)) 1 3 ≡ LabelLowered)
unfolding checks changed not_lowered unless implies has dominates level_dominates compare simple_all star_all star_for star_from star_pair wall_for wall_from wall_pair compatible confined company labels_rise label_under parent_live
neither-part-falls = (refl, refl, refl, refl)

-- the highest class less one, and the last need of class 0; from the lowest label to the highest at once
pub whole-range : (changes (Some (level 15 0)) 14 0 ≡ LabelLowered) × (changes (Some (level 0 0x8000)) 0 0 ≡ LabelLowered)
    × (changes (Some (level 0 0)) 15 0xFFFF ≡ Granted)
unfolding checks changed not_lowered unless implies has dominates level_dominates compare simple_all star_all star_for star_from star_pair wall_for wall_from wall_pair compatible confined company labels_rise label_under parent_live
whole-range = (refl, refl, refl)

-- the same label, a class more, a need more; a first label, also of class 0
pub raising-passes : (changes (Some (level 2 1)) 2 1 ≡ Granted) × (changes (Some (level 2 1)) 3 1 ≡ Granted) × (changes (Some (level 2 1)) 2 3 ≡ Granted)
    × (changes None 0 0 ≡ Granted) × (changes None 3 3 ≡ Granted)
unfolding checks changed not_lowered unless implies has dominates level_dominates compare simple_all star_all star_for star_from star_pair wall_for wall_from wall_pair compatible confined company labels_rise label_under parent_live
raising-passes = (refl, refl, refl, refl, refl)

-- "checked after 6 and before 8": a lowering by who is not enrolled, of a record that has a label and is not live, by who is not the owner
pub lowering-after-six : (checks (ChangeLevel 2 0 (level 0 0)) (state (Some (level 2 1)) 0 0 0) ≡ NotEnrolled)
    × (checks (ChangeLevel 1 2 (level 0 0)) (with_object (state (Some (level 2 1)) 0 0 0) 2 (with_label no_object (Some (level 2 1)))) ≡ NotLive)
    × (checks (ChangeLevel 0 0 (level 0 0)) (state (Some (level 2 1)) 0 0 0) ≡ NoRight)
unfolding checks unless labels_rise label_under parent_live
lowering-after-six = (refl, refl, refl)

-- a label apart that the reader, subject 0, does not dominate is 14, one above that is 8; a label apart with which subject 1 would read
-- what the other object, to which it appends, does not dominate is 14, one above that is 9
pub lowering-before-eight : (checks (ChangeLevel 1 0 (level 0 2)) (state (Some (level 1 1)) 8 0 0) ≡ LabelLowered)
    × (checks (ChangeLevel 1 0 (level 1 3)) (state (Some (level 1 1)) 8 0 0) ≡ SimpleBroken)
    × (checks (ChangeLevel 1 0 (level 0 2)) (state (Some (level 1 1)) 0 8 2) ≡ LabelLowered)
    × (checks (ChangeLevel 1 0 (level 1 3)) (state (Some (level 1 1)) 0 8 2) ≡ StarBroken)
unfolding checks changed not_lowered unless implies has dominates level_dominates compare simple_all star_all star_for star_from star_pair wall_for wall_from wall_pair compatible confined company labels_rise label_under parent_live
lowering-before-eight = (refl, refl, refl, refl)
