-- A list of at most four requests on which two states reply differently, empty where they are the same state.
-- Assumes nothing.
use Rattle.std.specs.Prelude.{ℕ, zero, suc, Bool, true, false, cond, not, ◌&&◌, ◌||◌, List, [], ◌∷◌, eqb, leb, Some, None}
use Rattle.std.specs.Bool.{beq}
use Rattle.model.specs.declared.Level.{Level}
use Rattle.model.specs.Levels.{Label, compare, same_label}
use Rattle.model.specs.declared.Comparison.{Comparison}
use Rattle.model.specs.declared.Comparison.TheVariants.{Equal, Above, Below, Apart}
use Rattle.model.specs.declared.Monitor.{Monitor}
use Rattle.model.specs.declared.Mode.{Mode}
use Rattle.model.specs.declared.Mode.TheVariants.{Read, Write, Append, Execute}
use Rattle.model.specs.declared.Request.{Request}
use Rattle.model.specs.declared.Request.TheVariants.{Get, Release, Create, Delete, ChangeLevel, SetCompanies}
use Rattle.model.specs.Modes.{has}
use Rattle.model.specs.State.{subject_count, object_count, clearance, enrolled, object, rights_of, held_by}
use Rattle.model.specs.Hierarchy.{below}
use Rattle.model.specs.Requests.{creation}

-- ---- the first list that is not empty

unfoldable pub or_else : List Request → List Request → List Request
or_else [] later = later
or_else (q ∷ qs) later = q ∷ qs

-- of the lists for 0, 1 and so on below n
unfoldable pub search : ℕ → (ℕ → List Request) → List Request
search zero f = []
search (suc n) f = or_else (search n f) (f n)

abbrev pub search_modes : (Mode → List Request) → List Request
search_modes f = or_else (f Read) (or_else (f Write) (or_else (f Append) (f Execute)))

-- the request, where the test passes
unfoldable pub when : Bool → Request → List Request
when true q = q ∷ []
when false q = []

abbrev pub differ : Bool → Bool → Bool
differ a b = not (beq a b)

-- another label: the owner, s, changes the level to one of them, 1 or not
unfoldable pub to_label : ℕ → ℕ → Label → Label → List Request
to_label s o None None = []
to_label s o None (Some b) = ChangeLevel s o b ∷ []
to_label s o (Some a) b = when (not (same_label (Some a) b)) (ChangeLevel s o a)

module _ (m n : Monitor) where
  -- enrolled in one only: any request by that subject, 3 or not
  unfoldable pub by_enrolment : ℕ → List Request
  by_enrolment s = when (differ (enrolled m s) (enrolled n s)) (Delete s 0)

  -- live in one only: a delete by its owner, 4 or not
  unfoldable pub by_life : ℕ → List Request
  by_life o = when (differ (object m o).live (object n o).live) (Delete (cond (object m o).live (object m o).owner (object n o).owner) o)

  -- another owner: a delete by one of them, 6 or not
  unfoldable pub by_owner : ℕ → List Request
  by_owner o = when (not (eqb (object m o).owner (object n o).owner)) (Delete (object m o).owner o)

  unfoldable pub by_life_and_owner : ℕ → List Request
  by_life_and_owner o = or_else (by_life o) (by_owner o)

  -- object y is below a live object x in one only (change request §11): the owner of x deletes it and creates y again, 5 or not
  unfoldable pub by_below : ℕ → ℕ → List Request
  by_below x y =
      cond ((object m x).live && differ (below m.objects x y) (below n.objects x y))
      (Delete (object m x).owner x ∷ Create (object m x).owner y (creation false 0) ∷ []) []

  -- another parent, "number plus one or 0": one of the two parents is above object o in one only, or the one parent is above the other in one only
  unfoldable pub to_parent : ℕ → ℕ → ℕ → List Request
  to_parent o zero zero = []
  to_parent o zero (suc q) = by_below q o
  to_parent o (suc p) zero = by_below p o
  to_parent o (suc p) (suc q) = cond (eqb p q) [] (or_else (by_below p o) (or_else (by_below q o) (by_below q p)))

  unfoldable pub by_parent : ℕ → List Request
  by_parent o = to_parent o (object m o).parent (object n o).parent

  -- another label
  unfoldable pub by_label : ℕ → List Request
  by_label o = to_label (object m o).owner o (object m o).label (object n o).label

  -- other company numbers (change request §10): the owner sets those of the one, 1 or not
  unfoldable pub by_companies : ℕ → List Request
  by_companies o =
      when (not (eqb (object m o).companies (object n o).companies)) (SetCompanies (object m o).owner o (object m o).companies)

  -- a right in one only: a get, 6 or not
  unfoldable pub by_right : ℕ → ℕ → Mode → List Request
  by_right o s x = when (differ (has x (rights_of (object m o) s)) (has x (rights_of (object n o) s))) (Get s o x)

  -- an access in one only: a release, 0 or 1
  unfoldable pub by_access : ℕ → ℕ → Mode → List Request
  by_access o s x = when (differ (has x (held_by (object m o) s)) (has x (held_by (object n o) s))) (Release s o x)

  unfoldable pub by_object : ℕ → List Request
  by_object o =
      or_else (by_label o) (or_else (by_companies o)
      (or_else (search subject_count (λ s. search_modes (by_right o s))) (search subject_count (λ s. search_modes (by_access o s)))))

  -- who is enrolled, what is live and who owns it, and what is under what: by deletions and creations alone
  unfoldable pub by_standing : List Request
  by_standing = or_else (search subject_count by_enrolment) (or_else (search object_count by_life_and_owner) (search object_count by_parent))

-- the last object below k that is neither live nor outside the profile (change request §8), 0 where there is none
unfoldable pub free_below : ℕ → Monitor → ℕ
free_below zero m = 0
free_below (suc k) m = cond ((object m k).live || leb m.profile.objects k) (free_below k m) k

-- the owner makes room where none is; then the subject creates an object, labels it and asks to read it
unfoldable pub read_at : Monitor → ℕ → ℕ → Level → List Request
read_at m o s l =
    cond (object m o).live (Delete (object m o).owner o ∷ Create s o (creation false 0) ∷ ChangeLevel s o l ∷ Get s o Read ∷ [])
    (Create s o (creation false 0) ∷ ChangeLevel s o l ∷ Get s o Read ∷ [])

-- of two lists, one for each of two levels: that of a level which the other does not dominate, the first where both are so; none where they are equal
abbrev pub by_comparison : Comparison → List Request → List Request → List Request
by_comparison Equal first second = []
by_comparison Above first second = first
by_comparison Below first second = second
by_comparison Apart first second = first

-- another clearance: s reads at a level that one of the two does not dominate, 8 or not
unfoldable pub to_clearance : Monitor → ℕ → Label → Label → List Request
to_clearance m s None b = []
to_clearance m s (Some a) None = []
to_clearance m s (Some a) (Some b) =
    by_comparison (compare a b) (read_at m (free_below object_count m) s a) (read_at m (free_below object_count m) s b)

unfoldable pub by_clearance : Monitor → Monitor → ℕ → List Request
by_clearance m n s = to_clearance m s (clearance m s) (clearance n s)

-- first what deletions and creations tell, then the rest of the objects, and where these are equal the clearances
unfoldable pub distinguish : Monitor → Monitor → List Request
distinguish m n = or_else (by_standing m n) (or_else (search object_count (by_object m n)) (search subject_count (by_clearance m n)))
