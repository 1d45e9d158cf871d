-- What was found is determined by the requests: so a contract that fixes the requests fixes the result.
-- Assumes nothing.
use Prim.Native.Nat.{ℕ}
use mathlib.Core.Path.{◌≡◌, refl, sym, ap, ◌∙◌}
use mathlib.Core.List.{List, [], ◌∷◌}
use Rattle.std.specs.Prelude.{Option, Some, None}
use Rattle.model.specs.declared.Level.{Level}
use Rattle.model.specs.declared.Request.{Request}
use Rattle.model.specs.declared.Request.TheVariants.{Get, Release, Give, Rescind, Create, Delete, ChangeLevel, SetCompanies}
use Rattle.model.specs.Rules.{target}
use Rattle.differences.specs.declared.sequence.Sequence.{Sequence}
use Rattle.differences.specs.declared.sequence.Sequence.TheVariants.{One, Remaking, Reading}
use Rattle.differences.specs.Sequences.{reading_of, make_room, requests_of}

-- the subject that asks, and the level that a change of level has
actor : Request → ℕ
actor (Get s o x) = s
actor (Release s o x) = s
actor (Give s t o x) = s
actor (Rescind s t o x) = s
actor (Create s o c) = s
actor (Delete s o) = s
actor (ChangeLevel s o l) = s
actor (SetCompanies s o n) = s

abbrev none : Level
none = record { class = 0; needs = 0 }

level_of : Request → Level
level_of (Get s o x) = none
level_of (Release s o x) = none
level_of (Give s t o x) = none
level_of (Rescind s t o x) = none
level_of (Create s o c) = none
level_of (Delete s o) = none
level_of (ChangeLevel s o l) = l
level_of (SetCompanies s o n) = none

-- the sequence that has these requests
sequence_of : List Request → Option Sequence
sequence_of [] = None
sequence_of (a ∷ []) = Some (One a)
sequence_of (a ∷ b ∷ []) = Some (Remaking (actor a) (target a) (target b))
sequence_of (a ∷ b ∷ c ∷ []) = Some (Reading (record { object = target a; owner = None }) (actor a) (level_of b))
sequence_of (a ∷ b ∷ c ∷ d ∷ l) = Some (Reading (record { object = target a; owner = Some (actor a) }) (actor b) (level_of c))

reading-back : (o : ℕ) (w : Option ℕ) (s : ℕ) (l : Level)
    → sequence_of (make_room w o (reading_of s o l)) ≡ Some (Reading (record { object = o; owner = w }) s l)
unfolding sequence_of actor level_of
reading-back o None s l = refl
reading-back o (Some w) s l = refl

sequence-back : (q : Option Sequence) → sequence_of (requests_of q) ≡ q
unfolding sequence_of actor level_of
sequence-back None = refl
sequence-back (Some (One q)) = refl
sequence-back (Some (Remaking w x y)) = refl
sequence-back (Some (Reading p s l)) = reading-back p.object p.owner s l

pub requests-determine : (a b : Option Sequence) → requests_of a ≡ requests_of b → a ≡ b
requests-determine a b e = sym (sequence-back a) ∙ ap sequence_of e ∙ sequence-back b
