-- What the rules answer where one word of the scope decides: the modes that read and alter, and the two parts of a level in star.
-- Assumes nothing.
use Prim.Native.Nat.{ℕ}
use mathlib.Core.Path.{◌≡◌, refl}
use mathlib.Core.List.{◌∷◌}
use lib.ListN.{replicate}
use Rattle.model.specs.Levels.{Label, dominates, level_dominates, compare}
use Rattle.std.specs.Prelude.{Some}
use Rattle.model.specs.declared.Object.{Object}
use Rattle.model.specs.declared.Monitor.{Monitor}
use Rattle.model.specs.declared.Mode.{Mode}
use Rattle.model.specs.declared.Mode.TheVariants.{Read, Write, Append, Execute}
use Rattle.model.specs.declared.Request.TheVariants.{Get}
use Rattle.model.specs.declared.Decision.{Decision}
use Rattle.model.specs.declared.Decision.TheVariants.{Granted, SimpleBroken, StarBroken}
use Rattle.model.specs.Tests.{implies, unless}
use Rattle.model.specs.Modes.{has, add}
use Rattle.model.specs.Companies.{company, compatible, confined}
use Rattle.model.specs.State.{no_object, nobody, with_owner, with_label, with_rows, with_object, fresh, widest}
use Rattle.model.specs.Hierarchy.{parent_live, label_under, labels_rise}
use Rattle.model.specs.Rules.{changed, checks, star_pair, star_from, star_for, wall_pair, wall_from, wall_for}

abbrev level : ℕ → ℕ → Label
level class needs = Some (record { class = class; needs = needs })

-- an object on which everybody has every right, and subject 1 holds the set
abbrev shared : Label → ℕ → Object
shared label held = with_rows (with_label (with_owner no_object 1) label) (replicate 16 15) (0 ∷ held ∷ replicate 14 0)

-- subject 0 has (1, 0001), subject 1 (3, 0003); objects 0 and 1 are such objects
abbrev two : Label → ℕ → Label → Monitor
two a held b =
    with_object
    (with_object (fresh widest (record { clearance = level 1 1 } ∷ record { clearance = level 3 3 } ∷ replicate 14 nobody)) 0 (shared a held))
    1 (shared b 0)

-- "8 (r, w)": subject 0 does not dominate (2, 0001), and is refused r and w, which also reads; a and e are granted
abbrev asks : Mode → Decision
asks x = checks (Get 0 0 x) (two (level 2 1) 0 (level 0 0))

pub who-reads : (asks Read ≡ SimpleBroken) × (asks Write ≡ SimpleBroken) × (asks Append ≡ Granted) × (asks Execute ≡ Granted)
unfolding checks changed has add implies unless star_for star_from star_pair wall_for wall_from wall_pair compatible confined company dominates level_dominates compare labels_rise label_under parent_live
who-reads = (refl, refl, refl, refl)

-- "r or w on P and a or w on Q": subject 1 holds a set on an object of class 1 and asks for a mode on one of class 0
abbrev downward : ℕ → Mode → Decision
downward held x = checks (Get 1 1 x) (two (level 1 0) held (level 0 0))

-- it reads the upper object by r (8) or w (4), and alters the lower one by a or w
pub reading-then-altering : (downward 8 Append ≡ StarBroken) × (downward 8 Write ≡ StarBroken) × (downward 4 Append ≡ StarBroken) × (downward 4 Write ≡ StarBroken)
unfolding checks changed has add implies unless star_for star_from star_pair wall_for wall_from wall_pair compatible confined company dominates level_dominates compare labels_rise label_under parent_live
reading-then-altering = (refl, refl, refl, refl)

-- a (2) and e (1) do not read, r and e do not alter
pub neither-way : (downward 2 Append ≡ Granted) × (downward 1 Append ≡ Granted) × (downward 8 Read ≡ Granted) × (downward 8 Execute ≡ Granted)
unfolding checks changed has add implies unless star_for star_from star_pair wall_for wall_from wall_pair compatible confined company dominates level_dominates compare labels_rise label_under parent_live
neither-way = (refl, refl, refl, refl)

-- the other way round: subject 1 alters the object of class 0 by a or w and asks to read that of class 1
abbrev upward : ℕ → Mode → Decision
upward held x = checks (Get 1 1 x) (two (level 0 0) held (level 1 0))

pub altering-then-reading : (upward 2 Read ≡ StarBroken) × (upward 2 Write ≡ StarBroken) × (upward 4 Read ≡ StarBroken) × (upward 4 Append ≡ Granted)
unfolding checks changed has add implies unless star_for star_from star_pair wall_for wall_from wall_pair compatible confined company dominates level_dominates compare labels_rise label_under parent_live
altering-then-reading = (refl, refl, refl, refl)

-- class and needs both count in star: subject 1 reads (1, 0001) and asks to append
abbrev flows : ℕ → ℕ → Decision
flows class needs = checks (Get 1 1 Append) (two (level 1 1) 8 (level class needs))

-- equal class and other needs; equal needs and a lower class; then both equal, and each greater
pub both-parts-count : (flows 1 2 ≡ StarBroken) × (flows 1 0 ≡ StarBroken) × (flows 0 1 ≡ StarBroken) × (flows 1 1 ≡ Granted) × (flows 1 3 ≡ Granted) × (flows 2 1 ≡ Granted)
unfolding checks changed has add implies unless star_for star_from star_pair wall_for wall_from wall_pair compatible confined company dominates level_dominates compare labels_rise label_under parent_live
both-parts-count = (refl, refl, refl, refl, refl, refl)
