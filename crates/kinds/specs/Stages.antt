-- The checks of get, of change of level and of kind 8 in two stages: of the state as it stands, and of the state with the change in it.
-- Assumes nothing.
use Rattle.std.specs.Prelude.{ℕ, cond, take}
use Rattle.model.specs.declared.Monitor.{Monitor}
use Rattle.model.specs.declared.Mode.{Mode}
use Rattle.model.specs.declared.Request.TheVariants.{Get}
use Rattle.model.specs.declared.Decision.{Decision}
use Rattle.model.specs.declared.Decision.TheVariants.{Granted, SimpleBroken, StarBroken, WallBroken, HierarchyBroken}
use Rattle.model.specs.Tests.{implies, unless, first_failing}
use Rattle.model.specs.Modes.{needs_label}
use Rattle.model.specs.State.{object}
use Rattle.model.specs.Hierarchy.{labels_rise}
use Rattle.model.specs.Decisions.{refuses}
use Rattle.model.specs.Rules.{simple_all, star_for, star_all, wall_for, check_list}

-- get: its checks but the last two, 9 and 18: "checks 4, 6 (the actor's right); 7 (not e); 8 (r, w)"
unfoldable pub before_star : ℕ → ℕ → Mode → Monitor → Decision
before_star s o x m = first_failing (take 5 (check_list (Get s o x) m))

-- "9 (r, w, a)", and 18 "checked last in get" (change request §10), of the state with the access in it
unfoldable pub after_get : ℕ → Mode → Monitor → Decision
after_get s x m =
    unless (implies (needs_label x) (star_for s m.objects)) StarBroken
    (unless (wall_for s m.objects) WallBroken
    Granted)

-- change of level: "8, 9 over all subjects in the state after the change", and 20 "after 9" (change request §11)
unfoldable pub after_change : ℕ → Monitor → Decision
after_change o m =
    unless (simple_all m.subjects (object m o)) SimpleBroken
    (unless (star_all m.objects) StarBroken
    (unless (labels_rise m.objects) HierarchyBroken
    Granted))

-- the first refusal of two stages
unfoldable pub first : Decision → Decision → Decision
first d later = cond (refuses d) d later
