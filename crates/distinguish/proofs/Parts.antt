-- The definition `distinguish` from the parts that the code computes.
-- Assumes nothing.
use Prim.Native.Nat.{ℕ, zero, suc}
use mathlib.Core.Path.{◌≡◌, refl, ap₂}
use mathlib.Core.Bool.{Bool, true, false, cond}
use mathlib.Core.List.{List, ◌∷◌}
use Rattle.model.specs.declared.Level.{Level}
use Rattle.model.specs.Levels.{Label}
use Rattle.std.specs.Prelude.{Some, None}
use Rattle.model.specs.declared.Monitor.{Monitor}
use Rattle.model.specs.declared.Request.{Request}
use Rattle.model.specs.declared.Request.TheVariants.{Delete}
use Rattle.std.specs.Bool.{then_some}
use Rattle.model.specs.State.{clearance, object}
use Rattle.telling.specs.Distinguish.{or_else, search, search_modes, by_enrolment, by_life, by_owner, by_life_and_owner, by_standing, by_label, by_companies, by_right, by_access, by_object, free_below, read_at, to_clearance, by_clearance, distinguish}
use Rattle.differences.specs.declared.sequence.Sequence.TheVariants.{Reading}
use Rattle.differences.specs.Sequences.{reading_of, make_room, requests_in}
use Rattle.differences.specs.Records.{life_apart, owner_apart, standing_apart, standings_apart, parents_apart, companies_apart, mode_apart, set_apart, row_apart, object_apart, objects_apart, enrolment_apart, enrolments_apart, free_place, level_apart, clearance_apart, clearances_apart}

module _ (m n : Monitor) where
  rights-part : (o : ℕ) → search 16 (λ s. search_modes (by_right m n o s)) ≡ row_apart false o (object m o).rights (object n o).rights
  unfolding by_right row_apart set_apart mode_apart
  rights-part o = refl

  held-part : (o : ℕ) → search 16 (λ s. search_modes (by_access m n o s)) ≡ row_apart true o (object m o).held (object n o).held
  unfolding by_access row_apart set_apart mode_apart
  held-part o = refl

  object-part : (o : ℕ) → by_object m n o ≡ object_apart o (object m o) (object n o)
  unfolding by_object object_apart by_label by_companies companies_apart
  object-part o = rw (rights-part o, held-part o)

-- the owner of a live object makes room first
room-part : (live : Bool) (owner o : ℕ) (l : List Request) → cond live (Delete owner o ∷ l) l ≡ make_room (then_some live owner) o l
room-part true owner o l = refl
room-part false owner o l = refl

reading-part : (m : Monitor) (s : ℕ) (l : Level) → read_at m (free_below 64 m) s l ≡ requests_in (Reading (free_place m).place s l)
unfolding read_at free_place
reading-part m s l = room-part (object m (free_below 64 m)).live (object m (free_below 64 m)).owner (free_below 64 m) (reading_of s (free_below 64 m) l)

clearance-part : (m : Monitor) (s : ℕ) (a b : Label) → to_clearance m s a b ≡ clearance_apart (free_place m).place s a b
unfolding to_clearance clearance_apart level_apart
clearance-part m s None b = refl
clearance-part m s (Some a) None = refl
clearance-part m s (Some a) (Some b) = rw (reading-part m s a, reading-part m s b)

-- two searches that agree at each number
search-same : (n : ℕ) (f g : ℕ → List Request) → ((k : ℕ) → f k ≡ g k) → search n f ≡ search n g
unfolding search
search-same zero f g h = refl
search-same (suc n) f g h = ap₂ or_else (search-same n f g h) (h n)

-- who is enrolled, then life and owner, then parents
pub standing_parts : (m n : Monitor)
    → by_standing m n ≡ or_else (enrolments_apart m.subjects n.subjects) (or_else (standings_apart m.objects n.objects) (parents_apart m n))
unfolding by_standing by_enrolment by_life_and_owner by_life by_owner enrolments_apart enrolment_apart standings_apart standing_apart life_apart owner_apart parents_apart
standing_parts m n = refl

-- then the rest of the objects, then the clearances
pub distinguish_parts : (m n : Monitor)
    → distinguish m n ≡ or_else (by_standing m n) (or_else (objects_apart m.objects n.objects) (clearances_apart (free_place m).place m.subjects n.subjects))
unfolding distinguish objects_apart clearances_apart by_clearance
distinguish_parts m n =
    ap₂ (λ (a b : List Request). or_else (by_standing m n) (or_else a b))
    (search-same 64 (by_object m n) (λ o. object_apart o (object m o) (object n o)) (object-part m n))
    (search-same 16 (by_clearance m n) (λ s. clearance_apart (free_place m).place s (clearance m s) (clearance n s)) (λ s. clearance-part m s (clearance m s) (clearance n s)))
