-- The effect of each kind, stated once more as a proposition over the state after it, and who gains or loses what.
-- Assumes nothing.
use Rattle.std.specs.Prelude.{ℕ, ◌≡◌, ◌≢◌, ◌⊎◌, true, Some, None}
use Rattle.model.specs.declared.Level.{Level}
use Rattle.model.specs.Levels.{Label}
use Rattle.model.specs.declared.Monitor.{Monitor}
use Rattle.model.specs.declared.Mode.{Mode}
use Rattle.model.specs.declared.Mode.TheVariants.{Read, Write, Append, Execute}
use Rattle.model.specs.declared.Creation.{Creation}
use Rattle.model.specs.declared.Request.{Request}
use Rattle.model.specs.declared.Request.TheVariants.{Get, Release, Give, Rescind, Create, Delete, ChangeLevel, SetCompanies}
use Rattle.model.specs.Modes.{has}
use Rattle.model.specs.State.{no_object, object, rights_of, held_by}
use Rattle.model.specs.Hierarchy.{Below}
use Rattle.model.specs.Properties.{Holds, Permits}

-- "live, unlabelled, owned by the actor, who gains r, w, a, and e if mode is 4", and nobody else has or holds anything; the company numbers
-- "are 0 at creation" (change request §10), and "Create carries the parent's number plus one" (change request §11)
pub record Created (n : Monitor) (s o : ℕ) (c : Creation) : Type 0 where
  pub live : (object n o).live ≡ true
  pub owned : (object n o).owner ≡ s
  pub unlabelled : (object n o).label ≡ None
  pub no-company : (object n o).companies ≡ 0
  pub under : (object n o).parent ≡ c.parent
  pub read : Permits n s o Read
  pub write : Permits n s o Write
  pub append : Permits n s o Append
  pub execute_by_mode : has Execute (rights_of (object n o) s) ≡ c.execute
  pub others : (t : ℕ) → t ≢ s → rights_of (object n o) t ≡ 0
  pub nobody_holds : (t : ℕ) → held_by (object n o) t ≡ 0

abbrev pub Effect : Request → Monitor → Type 0
-- "the actor then holds the access"
Effect (Get s o x) n = Holds n s o x
-- "the actor's access is dropped, held or not"
Effect (Release s o x) n = Holds n s o x → ⊥
-- "the other subject gains the right"
Effect (Give s t o x) n = Permits n t o x
-- "the other subject loses the right and the access"
Effect (Rescind s t o x) n = (Permits n t o x → ⊥) × (Holds n t o x → ⊥)
Effect (Create s o c) n = Created n s o c
-- "no longer live, its rights and accesses gone"
Effect (Delete s o) n = object n o ≡ no_object
-- "the label becomes class and needs"
Effect (ChangeLevel s o l) n = (object n o).label ≡ Some l
-- "lets the owner set them" (change request §10)
Effect (SetCompanies s o k) n = (object n o).companies ≡ k

-- the request gives access x on object o to subject t
abbrev pub GetsAccess : Request → ℕ → ℕ → Mode → Type 0
GetsAccess q t o x = q ≡ Get t o x

-- it takes right x at object o from subject t
abbrev pub TakesRight : Request → ℕ → ℕ → Mode → Type 0
TakesRight q t o x = (s : ℕ) × (q ≡ Rescind s t o x)

-- it ends access x on object o of subject t
abbrev pub EndsAccess : Request → ℕ → ℕ → Mode → Type 0
EndsAccess q t o x = (q ≡ Release t o x) ⊎ ((s : ℕ) × (q ≡ Rescind s t o x))

-- it gives right x at object o to subject t
abbrev pub GivesRight : Request → ℕ → ℕ → Mode → Type 0
GivesRight q t o x = (s : ℕ) × (q ≡ Give s t o x)

-- it changes the level of object o to the label
abbrev pub ChangesLabel : Request → ℕ → Label → Type 0
ChangesLabel q o a = (s : ℕ) × (l : Level) × (q ≡ ChangeLevel s o l) × (Some l ≡ a)

-- it sets the company numbers of object o to k
abbrev pub SetsNumbers : Request → ℕ → ℕ → Type 0
SetsNumbers q o k = (s : ℕ) × (q ≡ SetCompanies s o k)

-- it deletes an object that object o is below: "Deleting an object deletes everything below it" (change request §11)
abbrev pub TakesAlong : Request → Monitor → ℕ → Type 0
TakesAlong q m o = (s : ℕ) × (t : ℕ) × (q ≡ Delete s t) × Below m.objects t o
