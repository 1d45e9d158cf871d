-- The checks as the scope has them, the wall (change request §10) and parents (change request §11), where there is no profile (change
-- request §8): no definition here reads one.
-- Assumes nothing.
use Rattle.std.specs.Prelude.{ℕ, Bool, cond, List, [], ◌∷◌, length, take, drop, eqb, Some, None}
use Rattle.model.specs.declared.Subject.{Subject}
use Rattle.model.specs.declared.Object.{Object}
use Rattle.model.specs.Requests.{Decoded, request_size, fields, fields_formed, request}
use Rattle.model.specs.declared.Decision.{Decision}
use Rattle.model.specs.declared.Decision.TheVariants.{NoRight, NoLabel, SimpleBroken, StarBroken, WrongLength, StrayBits, AbsentSubject, WallBroken, ParentNotLive, HierarchyBroken}
use Rattle.model.specs.Tests.{all_of, first_failing}
use Rattle.model.specs.Hierarchy.{parents_hold, labels_rise}
use Rattle.model.specs.Rules.{simple_all, star_all, wall_all}
use Rattle.model.specs.Layout.{table_size, image_size}
use Rattle.model.specs.Reading.{table_from, table_form, objects_from, image_form, only_enrolled, within_matrix, held_labelled}

-- "request not 6 bytes; kind not 1 to 7", nor 8 of change request §10, "actor or other above 15; object above 63; mode not allowed; an
-- unused field not 0", or a parent "above 64" (change request §11)
unfoldable pub base_decode : List ℕ → Decoded
base_decode b = cond (eqb (length b) request_size) (cond (fields_formed (fields b)) (Some (request (fields b))) None) None

-- "Tables are checked 10, 11"
unfoldable pub base_table : List ℕ → Decision
base_table b = first_failing ((eqb (length b) table_size, WrongLength) ∷ (table_form b, StrayBits) ∷ [])

-- "12, 6, 7, 8, 9" over the subjects and the objects, and 18, 19 and 20 behind these
abbrev pub base_state : List Subject → List Object → List (Bool × Decision)
base_state l os =
    (all_of (only_enrolled l) os, AbsentSubject)
    ∷ (all_of within_matrix os, NoRight)
    ∷ (all_of held_labelled os, NoLabel)
    ∷ (all_of (simple_all l) os, SimpleBroken)
    ∷ (star_all os, StarBroken)
    ∷ (wall_all os, WallBroken)
    ∷ (parents_hold os, ParentNotLive)
    ∷ (labels_rise os, HierarchyBroken)
    ∷ []

-- "images 10, 11, 12, 6, 7, 8, 9", and 18, 19, 20
unfoldable pub base_image : List ℕ → Decision
base_image b =
    first_failing
    ((eqb (length b) image_size, WrongLength) ∷ (image_form b, StrayBits) ∷ base_state (table_from (take table_size b)) (objects_from (drop table_size b)))
