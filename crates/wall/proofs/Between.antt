-- The wall over some of the subjects: of the actor alone, of all.
-- Assumes nothing.
use Prim.Native.Nat.{ℕ, ◌+◌, ◌<◌}
use mathlib.Core.Path.{◌≡◌}
use mathlib.Core.List.{List}
use Rattle.model.specs.declared.Object.{Object}
use Rattle.model.specs.Rules.{wall_for, wall_all}
use Rattle.star.proofs.Between.{one-subject, all-subjects}
use Rattle.wall.specs.Between.{wall_between}

pub wall-one : (s : ℕ) (l : List Object) → s < 16 → wall_between s (s + 1) l ≡ wall_for s l
wall-one s l w = one-subject s (λ (k : ℕ). wall_for k l) w

pub wall-all : (l : List Object) → wall_between 0 16 l ≡ wall_all l
unfolding wall_all
wall-all l = all-subjects (λ (s : ℕ). wall_for s l)
