-- Requests that are well formed for a monitor of a profile, and lists of them, as `distinguish` gives them; lists of deletions and creations.
-- Assumes nothing.
use Rattle.std.specs.Prelude.{List, [], ◌∷◌}
use Rattle.model.specs.declared.Profile.{Profile}
use Rattle.model.specs.declared.Request.{Request}
use Rattle.model.specs.declared.Request.TheVariants.{Get, Release, Give, Rescind, Create, Delete, ChangeLevel, SetCompanies}
use Rattle.model.specs.Requests.{InRange, Within}

-- its numbers are in range and inside the profile (change request §8), so that its six bytes say it to such a monitor
abbrev pub Formed : Profile → Request → Type 0
Formed p q = InRange q × Within p q

abbrev pub AllFormed : Profile → List Request → Type 0
AllFormed p [] = Unit {0}
AllFormed p (q ∷ qs) = Formed p q × AllFormed p qs

-- "deletions and creations" (change request §11)
abbrev pub DeletesOrCreates : Request → Type 0
DeletesOrCreates (Get s o x) = ⊥
DeletesOrCreates (Release s o x) = ⊥
DeletesOrCreates (Give s t o x) = ⊥
DeletesOrCreates (Rescind s t o x) = ⊥
DeletesOrCreates (Create s o c) = Unit {0}
DeletesOrCreates (Delete s o) = Unit {0}
DeletesOrCreates (ChangeLevel s o l) = ⊥
DeletesOrCreates (SetCompanies s o n) = ⊥

abbrev pub OnlyThese : List Request → Type 0
OnlyThese [] = Unit {0}
OnlyThese (q ∷ qs) = DeletesOrCreates q × OnlyThese qs
