-- The orders in which causes are looked for, by their numbers.
-- Assumes nothing.
use Prim.Native.Nat.{ℕ}
use mathlib.Core.Path.{◌≡◌, refl}
use mathlib.Core.List.{List, [], ◌∷◌}
use Rattle.model.specs.declared.Level.{Level}
use Rattle.model.specs.declared.Profile.{Profile}
use Rattle.model.specs.declared.Monitor.{Monitor}
use Rattle.model.specs.declared.Mode.{Mode}
use Rattle.model.specs.declared.Creation.{Creation}
use Rattle.model.specs.declared.Request.TheVariants.{Get, Release, Give, Rescind, Create, Delete, ChangeLevel, SetCompanies}
use Rattle.refusals.specs.First.{order_of}
use Rattle.refusals.specs.Causes.{request_causes, table_causes, image_causes}

-- "Checks run in the order 2, 3, then 4 or 5, then 6, 7, 8, 9", each kind with those of its row in the table of kinds; 14 is "checked after
-- 6 and before 8", 18 "checked last in get and kind 8", 19 "in create after 5" and 20 "in change level after 9"
pub orders-of-requests : (m : Monitor) (s t o n : ℕ) (x : Mode) (c : Creation) (l : Level)
    → (order_of (request_causes (Get s o x) m) ≡ 3 ∷ 4 ∷ 6 ∷ 7 ∷ 8 ∷ 9 ∷ 18 ∷ [])
    × (order_of (request_causes (Release s o x) m) ≡ 3 ∷ 4 ∷ [])
    × (order_of (request_causes (Give s t o x) m) ≡ 3 ∷ 4 ∷ 6 ∷ [])
    × (order_of (request_causes (Rescind s t o x) m) ≡ 3 ∷ 4 ∷ 6 ∷ [])
    × (order_of (request_causes (Create s o c) m) ≡ 3 ∷ 5 ∷ 19 ∷ [])
    × (order_of (request_causes (Delete s o) m) ≡ 3 ∷ 4 ∷ 6 ∷ [])
    × (order_of (request_causes (ChangeLevel s o l) m) ≡ 3 ∷ 4 ∷ 6 ∷ 14 ∷ 8 ∷ 9 ∷ 20 ∷ [])
    × (order_of (request_causes (SetCompanies s o n) m) ≡ 3 ∷ 4 ∷ 6 ∷ 18 ∷ [])
orders-of-requests m s t o n x c l = (refl, refl, refl, refl, refl, refl, refl, refl)

-- "Tables are checked 10, 11; images 10, 11, 12, 6, 7, 8, 9"; 16 "before anything else is read" and "directly after 11"; 18 "after 9", 19 "after 18", 20
-- "after 19"
pub orders-of-beginnings : (p : Profile) (b : List ℕ)
    → (order_of (table_causes p b) ≡ 16 ∷ 10 ∷ 11 ∷ 16 ∷ [])
    × (order_of (image_causes p b) ≡ 16 ∷ 10 ∷ 11 ∷ 16 ∷ 12 ∷ 6 ∷ 7 ∷ 8 ∷ 9 ∷ 18 ∷ 19 ∷ 20 ∷ [])
orders-of-beginnings p b = (refl, refl)
