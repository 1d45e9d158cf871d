-- The eight rules ("Requests" in the scope, the last in change request §10): the checks of each kind in order, the record after it, what a
-- delete takes along, and when the state was so already.
-- Assumes nothing.
use Rattle.std.specs.Prelude.{ℕ, Bool, false, cond, not, ◌&&◌, List, [], ◌∷◌, set, eqb, Some}
use Rattle.model.specs.Levels.{Label, dominates, present, same_label}
use Rattle.model.specs.declared.Subject.{Subject}
use Rattle.model.specs.declared.Object.{Object}
use Rattle.model.specs.declared.Monitor.{Monitor}
use Rattle.model.specs.declared.Mode.{Mode}
use Rattle.model.specs.declared.Creation.{Creation}
use Rattle.model.specs.declared.Request.{Request}
use Rattle.model.specs.declared.Request.TheVariants.{Get, Release, Give, Rescind, Create, Delete, ChangeLevel, SetCompanies}
use Rattle.model.specs.declared.Decision.{Decision}
use Rattle.model.specs.declared.Decision.TheVariants.{Granted, Already, NotEnrolled, NotLive, AlreadyLive, NoRight, NoLabel, SimpleBroken, StarBroken, LabelLowered, WallBroken, ParentNotLive, HierarchyBroken}
use Rattle.model.specs.declared.Response.{Response}
use Rattle.model.specs.Tests.{all_below, all_of, implies, first_failing}
use Rattle.model.specs.Modes.{has, add, remove, observes, needs_label, any_observes, any_alters, any_held}
use Rattle.model.specs.Companies.{compatible, confined}
use Rattle.model.specs.State.{subject_count, no_object, clearance_at, clearance, enrolled, object, rights_of, held_by, with_owner, with_rights, with_held, with_label, with_companies, with_parent}
use Rattle.model.specs.Hierarchy.{without_below, parent_live, labels_rise}
use Rattle.model.specs.Decisions.{refuses}

-- ---- the tests of the simple and the star property, and of the wall

-- simple, at one object for all subjects: who holds r or w has a clearance that dominates its label
unfoldable pub simple_all : List Subject → Object → Bool
simple_all l ob = all_below subject_count (λ (s : ℕ). implies (any_observes (held_by ob s)) (dominates (clearance_at l s) ob.label))

-- star, for one subject and two objects: where it alters q, the label of q dominates that of p
unfoldable pub star_pair : ℕ → Object → Object → Bool
star_pair s p q = implies (any_alters (held_by q s)) (dominates q.label p.label)

-- where it observes p, this for every q
unfoldable pub star_from : ℕ → List Object → Object → Bool
star_from s l p = implies (any_observes (held_by p s)) (all_of (star_pair s p) l)

-- star, for one subject over all objects
unfoldable pub star_for : ℕ → List Object → Bool
star_for s l = all_of (star_from s l) l

-- star, for all subjects
unfoldable pub star_all : List Object → Bool
star_all l = all_below subject_count (λ (s : ℕ). star_for s l)

-- the wall, for one subject and two objects: where it holds an access on q too, each class has a 0 or equal numbers, and where it observes p
-- and alters q, each nonzero number of p equals that of q
unfoldable pub wall_pair : ℕ → Object → Object → Bool
wall_pair s p q =
    implies (any_held (held_by q s))
    (compatible p.companies q.companies
    && implies (any_observes (held_by p s) && any_alters (held_by q s)) (confined p.companies q.companies))

-- where it holds an access on p, this for every q
unfoldable pub wall_from : ℕ → List Object → Object → Bool
wall_from s l p = implies (any_held (held_by p s)) (all_of (wall_pair s p) l)

-- the wall, for one subject over all objects
unfoldable pub wall_for : ℕ → List Object → Bool
wall_for s l = all_of (wall_from s l) l

-- the wall, for all subjects
unfoldable pub wall_all : List Object → Bool
wall_all l = all_below subject_count (λ (s : ℕ). wall_for s l)

-- ---- the effect of each kind

-- the object that a request is about
abbrev pub target : Request → ℕ
target (Get s o x) = o
target (Release s o x) = o
target (Give s t o x) = o
target (Rescind s t o x) = o
target (Create s o c) = o
target (Delete s o) = o
target (ChangeLevel s o l) = o
target (SetCompanies s o n) = o

-- "live, unlabelled, owned by the actor, who gains r, w, a, and e if mode is 4"; "Create carries the parent's number plus one" (change request §11)
abbrev pub created : ℕ → Creation → Object
created s c = with_rights (with_parent (with_owner no_object s) c.parent) s (cond c.execute 15 14)

-- the record of the object after the request
unfoldable pub changed : Request → Object → Object
-- "the actor then holds the access"
changed (Get s o x) ob = with_held ob s (add x (held_by ob s))
-- "the actor's access is dropped, held or not"
changed (Release s o x) ob = with_held ob s (remove x (held_by ob s))
-- "the other subject gains the right"
changed (Give s t o x) ob = with_rights ob t (add x (rights_of ob t))
-- "the other subject loses the right and the access"
changed (Rescind s t o x) ob = with_held (with_rights ob t (remove x (rights_of ob t))) t (remove x (held_by ob t))
changed (Create s o c) ob = created s c
-- "no longer live, its rights and accesses gone"
changed (Delete s o) ob = no_object
-- "the label becomes class and needs"
changed (ChangeLevel s o l) ob = with_label ob (Some l)
-- "lets the owner set them", the company numbers (change request §10)
changed (SetCompanies s o n) ob = with_companies ob n

-- the other objects: "Deleting an object deletes everything below it" (change request §11), no other kind touches another record
abbrev pub spared : Request → List Object → List Object
spared (Get s o x) l = l
spared (Release s o x) l = l
spared (Give s t o x) l = l
spared (Rescind s t o x) l = l
spared (Create s o c) l = l
spared (Delete s o) l = without_below o l
spared (ChangeLevel s o v) l = l
spared (SetCompanies s o n) l = l

-- the state after it
abbrev pub afterwards : Request → Monitor → Monitor
afterwards q m =
    record {
      profile = m.profile;
      subjects = m.subjects;
      objects = set (spared q m.objects) (target q) (changed q (object m (target q)));
    }

-- "the state was so already"
unfoldable pub already : Request → Object → Bool
already (Get s o x) ob = has x (held_by ob s)
already (Release s o x) ob = not (has x (held_by ob s))
already (Give s t o x) ob = has x (rights_of ob t)
already (Rescind s t o x) ob = not (has x (rights_of ob t)) && not (has x (held_by ob t))
already (Create s o c) ob = false
already (Delete s o) ob = false
already (ChangeLevel s o l) ob = same_label ob.label (Some l)
already (SetCompanies s o n) ob = eqb ob.companies n

-- ---- the checks of each kind, "in the order 2, 3, then 4 or 5, then 6, 7, 8, 9", with 14 between 6 and 8, 18 or 20 behind 9, and 19 behind 5; 2
-- is in decoding

abbrev pub owns : ℕ → Object → Bool
owns s ob = eqb ob.owner s

-- "the actor is owner and has that right itself"
abbrev pub may_give : ℕ → Mode → Object → Bool
may_give s x ob = owns s ob && has x (rights_of ob s)

-- "A change of level on a labelled object passes only if the new label dominates the old one; a first label is free" (change request §3)
unfoldable pub not_lowered : Label → Label → Bool
not_lowered old new = implies (present old) (dominates new old)

-- each check with its answer
abbrev pub check_list : Request → Monitor → List (Bool × Decision)
-- "checks 4, 6 (the actor's right); 7 (not e); 8 (r, w); 9 (r, w, a)"; 18 "checked last in get", of every mode
check_list (Get s o x) m =
    (enrolled m s, NotEnrolled)
    ∷ ((object m o).live, NotLive)
    ∷ (has x (rights_of (object m o) s), NoRight)
    ∷ (implies (needs_label x) (present (object m o).label), NoLabel)
    ∷ (implies (observes x) (dominates (clearance m s) (object m o).label), SimpleBroken)
    ∷ (implies (needs_label x) (star_for s (afterwards (Get s o x) m).objects), StarBroken)
    ∷ (wall_for s (afterwards (Get s o x) m).objects, WallBroken)
    ∷ []
-- "check 4"
check_list (Release s o x) m =
    (enrolled m s, NotEnrolled)
    ∷ ((object m o).live, NotLive)
    ∷ []
-- "checks 4, 6: the actor is owner and has that right itself"
check_list (Give s t o x) m =
    (enrolled m s && enrolled m t, NotEnrolled)
    ∷ ((object m o).live, NotLive)
    ∷ (may_give s x (object m o), NoRight)
    ∷ []
-- "checks as give"
check_list (Rescind s t o x) m =
    (enrolled m s && enrolled m t, NotEnrolled)
    ∷ ((object m o).live, NotLive)
    ∷ (may_give s x (object m o), NoRight)
    ∷ []
-- "check 5"; "19, a parent that isn't live, in create after 5" (change request §11)
check_list (Create s o c) m =
    (enrolled m s, NotEnrolled)
    ∷ (not (object m o).live, AlreadyLive)
    ∷ (parent_live m.objects c.parent, ParentNotLive)
    ∷ []
-- "checks 4, 6: owner"
check_list (Delete s o) m =
    (enrolled m s, NotEnrolled)
    ∷ ((object m o).live, NotLive)
    ∷ (owns s (object m o), NoRight)
    ∷ []
-- "checks 4, 6: owner; 8, 9 over all subjects in the state after the change"; "14, .. checked after 6 and before 8";
-- "20, a label that breaks the rule toward parent or child, in change level after 9" (change request §11)
check_list (ChangeLevel s o l) m =
    (enrolled m s, NotEnrolled)
    ∷ ((object m o).live, NotLive)
    ∷ (owns s (object m o), NoRight)
    ∷ (not_lowered (object m o).label (Some l), LabelLowered)
    ∷ (simple_all m.subjects (changed (ChangeLevel s o l) (object m o)), SimpleBroken)
    ∷ (star_all (afterwards (ChangeLevel s o l) m).objects, StarBroken)
    ∷ (labels_rise (afterwards (ChangeLevel s o l) m).objects, HierarchyBroken)
    ∷ []
-- "it has checks 4, 6 (owner) and the wall over all subjects in the state after it" (change request §10)
check_list (SetCompanies s o n) m =
    (enrolled m s, NotEnrolled)
    ∷ ((object m o).live, NotLive)
    ∷ (owns s (object m o), NoRight)
    ∷ (wall_all (afterwards (SetCompanies s o n) m).objects, WallBroken)
    ∷ []

-- the first check that fails gives its answer, Granted where none does
unfoldable pub checks : Request → Monitor → Decision
checks q m = first_failing (check_list q m)

-- a refusal leaves "the whole state"; "Reply 0: granted and the state changed. Reply 1: granted and the state was so already."
unfoldable pub answer : Decision → Bool → Monitor → Monitor → Response
answer d was m n =
    cond (refuses d) (record { decision = d; monitor = m })
    (record { decision = cond was Already Granted; monitor = n })

-- one well-formed request
unfoldable pub step : Request → Monitor → Response
step q m = answer (checks q m) (already q (object m (target q))) m (afterwards q m)
