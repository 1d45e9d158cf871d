-- "Errors seen in other monitors", and what the rules say instead: small states, by computation.
-- Assumes nothing.
use Prim.Native.Nat.{ℕ}
use mathlib.Core.Path.{◌≡◌, refl}
use mathlib.Core.Bool.{true, false}
use mathlib.Core.List.{◌∷◌}
use lib.ListN.{replicate}
use Rattle.model.specs.Levels.{Label, dominates, level_dominates, compare}
use Rattle.std.specs.Prelude.{Some, None}
use Rattle.model.specs.declared.Object.{Object}
use Rattle.model.specs.declared.Monitor.{Monitor}
use Rattle.model.specs.declared.Mode.TheVariants.{Read, Write, Append, Execute}
use Rattle.model.specs.declared.Request.TheVariants.{Get, Give, Rescind, Delete, ChangeLevel}
use Rattle.model.specs.declared.Decision.TheVariants.{Granted, NotLive, NoRight, NoLabel, SimpleBroken}
use Rattle.model.specs.Tests.{implies, unless}
use Rattle.model.specs.Modes.{has, add, remove}
use Rattle.model.specs.Companies.{company, compatible, confined}
use Rattle.model.specs.State.{no_object, nobody, object, rights_of, held_by, with_owner, with_label, with_rows, with_object, fresh, widest}
use Rattle.model.specs.Requests.{creation}
use Rattle.model.specs.Hierarchy.{parent_live, label_under, labels_rise}
use Rattle.model.specs.Rules.{created, not_lowered, changed, checks, simple_all, star_pair, star_from, star_for, wall_pair, wall_from, wall_for}

abbrev level : ℕ → ℕ → Label
level class needs = Some (record { class = class; needs = needs })

-- subject 0 has (1, 0001), subject 1 (3, 0003); object 0 belongs to subject 1, who has r, w, a and e on it; subject 0 has r and e
abbrev state : Label → ℕ → ℕ → Monitor
state label held0 held1 =
    with_object (fresh widest (record { clearance = level 1 1 } ∷ record { clearance = level 3 3 } ∷ replicate 14 nobody)) 0
    (with_rows (with_label (with_owner no_object 1) label) (9 ∷ 15 ∷ replicate 14 0) (held0 ∷ held1 ∷ replicate 14 0))

-- an object of class 0 on which everybody has every right, and subject 1 holds the set
abbrev low : ℕ → Object
low held = with_rows (with_label (with_owner no_object 1) (level 0 0)) (replicate 16 15) (0 ∷ held ∷ replicate 14 0)

-- an absent label is not class 0 with no needs: r, w and a are refused, e is not
pub unlabelled-closed : (checks (Get 1 0 Read) (state None 0 0) ≡ NoLabel) × (checks (Get 1 0 Append) (state None 0 0) ≡ NoLabel)
unfolding checks changed has add implies unless star_for star_from star_pair wall_for wall_from wall_pair compatible confined company dominates labels_rise label_under parent_live
unlabelled-closed = (refl, refl)

pub execute-needs-no-label : checks (Get 1 0 Execute) (state None 0 0) ≡ Granted
unfolding checks changed has add implies unless star_for star_from star_pair wall_for wall_from wall_pair compatible confined company dominates labels_rise label_under parent_live
execute-needs-no-label = refl

-- class and needs both count, and two levels may be apart
pub needs-count : (dominates (level 5 1) (level 3 3) ≡ false) × (dominates (level 1 1) (level 0 2) ≡ false) × (dominates (level 0 2) (level 1 1) ≡ false)
unfolding dominates level_dominates compare
needs-count = (refl, refl, refl)

-- not dominated is not dominates: subject 1 has (3, 0003) and the label is (0, 0004), neither above the other
pub apart-is-refused : (checks (Get 1 0 Read) (state (level 0 4) 0 0) ≡ SimpleBroken) × (checks (Get 1 0 Read) (state (level 0 3) 0 0) ≡ Granted)
unfolding checks changed has add implies unless star_for star_from star_pair wall_for wall_from wall_pair compatible confined company dominates level_dominates compare labels_rise label_under parent_live
apart-is-refused = (refl, refl)

-- give and rescind need ownership and the right itself; the right alone, or ownership alone, is not enough
pub give-needs-both : (checks (Give 0 1 0 Read) (state None 0 0) ≡ NoRight)
    × (checks (Give 1 0 1 Execute) (with_object (state None 0 0) 1 (created 1 (creation false 0))) ≡ NoRight)
    × (checks (Give 1 0 1 Read) (with_object (state None 0 0) 1 (created 1 (creation false 0))) ≡ Granted)
unfolding checks has unless labels_rise label_under parent_live
give-needs-both = (refl, refl, refl)

-- get stores the access; rescind takes the right and the access
pub get-stores : held_by (changed (Get 1 0 Read) (object (state (level 1 1) 0 0) 0)) 1 ≡ 8
unfolding changed has add
get-stores = refl

pub rescind-takes-both : (rights_of (changed (Rescind 1 0 0 Read) (object (state (level 1 1) 8 0) 0)) 0 ≡ 1)
    × (held_by (changed (Rescind 1 0 0 Read) (object (state (level 1 1) 8 0) 0)) 0 ≡ 0)
unfolding changed has remove
rescind-takes-both = (refl, refl)

-- delete leaves nothing for the next object in the slot
pub delete-leaves-nothing : changed (Delete 1 0) (object (state (level 1 1) 8 0) 0) ≡ no_object
unfolding changed
delete-leaves-nothing = refl

-- change of level looks at every subject's accesses: subject 0 reads object 0
pub change-looks-at-all : checks (ChangeLevel 1 0 (record { class = 2; needs = 1 })) (state (level 1 1) 8 0) ≡ SimpleBroken
unfolding checks changed not_lowered has implies unless simple_all dominates level_dominates compare labels_rise label_under parent_live
change-looks-at-all = refl

-- star: who reads class 1 may not append to class 0, and who appends only reads nothing
pub star-one-way : (star_for 1 (with_object (state (level 1 1) 0 8) 1 (low 2)).objects ≡ false)
    × (star_for 1 (with_object (state (level 1 1) 0 2) 1 (low 8)).objects ≡ true)
unfolding star_for star_from star_pair wall_for wall_from wall_pair compatible confined company has implies dominates level_dominates compare
star-one-way = (refl, refl)

-- life comes before right, right before label
pub checks-in-order : (checks (Get 0 1 Write) (state None 0 0) ≡ NotLive) × (checks (Get 0 0 Write) (state None 0 0) ≡ NoRight)
unfolding checks changed has add implies unless star_for star_from star_pair wall_for wall_from wall_pair compatible confined company dominates labels_rise label_under parent_live
checks-in-order = (refl, refl)
