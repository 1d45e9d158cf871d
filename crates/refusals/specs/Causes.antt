-- "Refused causes", stated once more as propositions from the scope's tables, independent of the tests that the rules use.
-- Assumes nothing.
use Rattle.std.specs.Prelude.{ℕ, suc, ◌<◌, ◌≤◌, ◌≡◌, ◌≢◌, ◌⊎◌, Bool, true, false, List, [], length, get_or, take, drop, Some, None}
use Rattle.bits.specs.Bits.{first}
use Rattle.model.specs.declared.Level.{Level}
use Rattle.model.specs.declared.Subject.{Subject}
use Rattle.model.specs.declared.Object.{Object}
use Rattle.model.specs.declared.Profile.{Profile}
use Rattle.model.specs.declared.Monitor.{Monitor}
use Rattle.model.specs.declared.Mode.{Mode}
use Rattle.model.specs.declared.Mode.TheVariants.{Execute}
use Rattle.model.specs.declared.Fields.{Fields}
use Rattle.model.specs.declared.Request.{Request}
use Rattle.model.specs.declared.Request.TheVariants.{Get, Release, Give, Rescind, Create, Delete, ChangeLevel, SetCompanies}
use Rattle.model.specs.declared.Decision.TheVariants.{NotEnrolled, NotLive, AlreadyLive, NoRight, NoLabel, SimpleBroken, StarBroken, WrongLength, StrayBits, AbsentSubject, LabelLowered, OutsideProfile, WallBroken, ParentNotLive, HierarchyBroken}
use Rattle.model.specs.Levels.{need, Dominates}
use Rattle.model.specs.State.{clearance_at, clearance, object_at, object, rights_of, held_by}
use Rattle.model.specs.Properties.{Permits, Discretionary, Labelled, Simple, Star, Wall}
use Rattle.model.specs.Hierarchy.{Ends}
use Rattle.model.specs.Requests.{fields}
use Rattle.model.specs.Rules.{afterwards}
use Rattle.model.specs.Layout.{label_width, label_offset, table_size, image_size}
use Rattle.model.specs.Reading.{table_records, object_records, table_from, monitor_from}
use Rattle.refusals.specs.First.{Causes, none, row}

-- ---- outside a profile (change request §8)

-- "the subjects in use (1 to 16), objects in use (1 to 64), highest class (0 to 15)": "a profile outside these ranges"
abbrev pub ProfileOutside : Profile → Type 0
ProfileOutside p = (p.subjects < 1) ⊎ ((16 < p.subjects) ⊎ ((p.objects < 1) ⊎ ((64 < p.objects) ⊎ (15 < p.highest.class))))

-- a need of the set that is not in "the needs in use"
abbrev pub NeedOutside : Profile → ℕ → Type 0
NeedOutside p needs = (k : ℕ) × (k < 16) × (need k needs ≡ true) × (need k p.highest.needs ≡ false)

-- a class above the "highest class", or such a need
abbrev pub LevelOutside : Profile → Level → Type 0
LevelOutside p l = (p.highest.class < l.class) ⊎ NeedOutside p l.needs

-- ---- 2, of byte strings

-- "mode not allowed"
abbrev pub ModeNotAllowed : ℕ → ℕ → Type 0
ModeNotAllowed kind mode =
    ((kind ≤ 4) × ((mode ≡ 0) ⊎ (4 < mode)))
    ⊎ (((kind ≡ 5) × (mode ≢ 0) × (mode ≢ 4))
    ⊎ ((5 < kind) × (mode ≢ 0)))

-- "an unused field not 0"; needs stand in kind 8 too, where they are the company numbers (change request §10), and in kind 5, where they are
-- the parent (change request §11)
abbrev pub UnusedSet : Fields → Type 0
UnusedSet f =
    ((f.kind ≢ 3) × (f.kind ≢ 4) × (f.other ≢ 0))
    ⊎ (((f.kind ≢ 7) × (f.class ≢ 0))
    ⊎ (((f.kind ≢ 5) × (f.kind ≢ 7) × (f.kind ≢ 8) × (f.needs ≢ 0))
    ⊎ (f.spare ≢ 0)))

-- "request not 6 bytes; kind not 1 to 7", nor 8 of change request §10, "actor or other above 15; object above 63; mode not allowed; an
-- unused field not 0"; "A subject, object, class or need outside it in a request is malformed", by the profile of the monitor; the company
-- numbers of kind 8 are "not bounded by the profile"; a parent's number plus one "above 64, or for an object beyond the profile, .. is malformed, and
-- the profile's needs do not bound it" (change request §11)
pub data MalformedBytes (p : Profile) (b : List ℕ) : Type 0 where
  not_six_bytes : length b ≢ 6 → MalformedBytes p b
  kind_below : (fields b).kind < 1 → MalformedBytes p b
  kind_above : 8 < (fields b).kind → MalformedBytes p b
  actor_above : 15 < (fields b).actor → MalformedBytes p b
  other_above : 15 < (fields b).other → MalformedBytes p b
  object_above : 63 < (fields b).object → MalformedBytes p b
  mode_not_allowed : ModeNotAllowed (fields b).kind (fields b).mode → MalformedBytes p b
  unused_set : UnusedSet (fields b) → MalformedBytes p b
  actor_outside : p.subjects ≤ (fields b).actor → MalformedBytes p b
  other_outside : p.subjects ≤ (fields b).other → MalformedBytes p b
  object_outside : p.objects ≤ (fields b).object → MalformedBytes p b
  class_outside : p.highest.class < (fields b).class → MalformedBytes p b
  need-outside : (fields b).kind ≢ 5 → (fields b).kind ≢ 8 → NeedOutside p (fields b).needs → MalformedBytes p b
  parent_above : (fields b).kind ≡ 5 → 64 < (fields b).needs → MalformedBytes p b
  parent_outside : (fields b).kind ≡ 5 → p.objects < (fields b).needs → MalformedBytes p b

-- ---- 3 to 9, 14 and 18 to 20, of requests

-- a subject that is absent
abbrev pub NotIn : Monitor → ℕ → Type 0
NotIn m s = clearance m s ≡ None

-- a subject that lacks the right x at object o
abbrev pub Lacks : Monitor → ℕ → ℕ → Mode → Type 0
Lacks m s o x = Permits m s o x → ⊥

-- "A labelled child has a labelled parent whose label it dominates" (change request §11): object o, which is under object p, breaks the rule
abbrev pub LabelBelow : Monitor → ℕ → ℕ → Type 0
LabelBelow m o p = ((object m o).parent ≡ suc p) × ((object m o).label ≢ None) × (Dominates (object m o).label (object m p).label → ⊥)

-- 3: "actor, or in kinds 3 and 4 the other subject, not enrolled"; 4: "object not live"; 5: "create on a live object"; 6: "right or
-- ownership missing"; 7: "no label"; 8: "simple property would break"; 9: "star property would break", both in the state after it;
-- 14: "a new label that does not dominate the old" (change request §3); 18: "the wall would break" (change request §10), in the state after it;
-- 19: "a parent that isn't live", 20: "a label that breaks the rule toward parent or child" (change request §11), in the state after it.
-- Each kind has the checks that its row of the table of kinds names
abbrev pub request_causes : Request → Monitor → Causes
-- "checks 4, 6 (the actor's right); 7 (not e); 8 (r, w); 9 (r, w, a)"; 18 "checked last in get"
request_causes (Get s o x) m =
    row NotEnrolled (NotIn m s)
    (row NotLive ((object m o).live ≢ true)
    (row NoRight (Lacks m s o x)
    (row NoLabel ((x ≢ Execute) × ((object m o).label ≡ None))
    (row SimpleBroken (Simple (afterwards (Get s o x) m) → ⊥)
    (row StarBroken (Star (afterwards (Get s o x) m) → ⊥)
    (row WallBroken (Wall (afterwards (Get s o x) m) → ⊥)
    none))))))
-- "check 4"
request_causes (Release s o x) m =
    row NotEnrolled (NotIn m s)
    (row NotLive ((object m o).live ≢ true)
    none)
-- "checks 4, 6: the actor is owner and has that right itself"
request_causes (Give s t o x) m =
    row NotEnrolled (NotIn m s ⊎ NotIn m t)
    (row NotLive ((object m o).live ≢ true)
    (row NoRight (((object m o).owner ≢ s) ⊎ Lacks m s o x)
    none))
-- "checks as give"
request_causes (Rescind s t o x) m =
    row NotEnrolled (NotIn m s ⊎ NotIn m t)
    (row NotLive ((object m o).live ≢ true)
    (row NoRight (((object m o).owner ≢ s) ⊎ Lacks m s o x)
    none))
-- "check 5"; 19 "in create after 5"
request_causes (Create s o c) m =
    row NotEnrolled (NotIn m s)
    (row AlreadyLive ((object m o).live ≡ true)
    (row ParentNotLive ((p : ℕ) × (c.parent ≡ suc p) × ((object m p).live ≢ true))
    none))
-- "checks 4, 6: owner"
request_causes (Delete s o) m =
    row NotEnrolled (NotIn m s)
    (row NotLive ((object m o).live ≢ true)
    (row NoRight ((object m o).owner ≢ s)
    none))
-- "checks 4, 6: owner; 8, 9 over all subjects in the state after the change"; 14 "on a labelled object", "after 6 and before 8";
-- 20 "in change level after 9"
request_causes (ChangeLevel s o l) m =
    row NotEnrolled (NotIn m s)
    (row NotLive ((object m o).live ≢ true)
    (row NoRight ((object m o).owner ≢ s)
    (row LabelLowered (((object m o).label ≢ None) × (Dominates (Some l) (object m o).label → ⊥))
    (row SimpleBroken (Simple (afterwards (ChangeLevel s o l) m) → ⊥)
    (row StarBroken (Star (afterwards (ChangeLevel s o l) m) → ⊥)
    (row HierarchyBroken
    (((p : ℕ) × LabelBelow (afterwards (ChangeLevel s o l) m) o p) ⊎ ((y : ℕ) × LabelBelow (afterwards (ChangeLevel s o l) m) y o))
    none))))))
-- "checks 4, 6 (owner) and the wall over all subjects in the state after it" (change request §10)
request_causes (SetCompanies s o n) m =
    row NotEnrolled (NotIn m s)
    (row NotLive ((object m o).live ≢ true)
    (row NoRight ((object m o).owner ≢ s)
    (row WallBroken (Wall (afterwards (SetCompanies s o n) m) → ⊥)
    none)))

-- ---- 16, 10, 11, 12, 6 to 9 and 18 to 20, of tables and images

-- an absent record: its first bit is 0, and another of its own bits is set
abbrev pub Stray : List Bool → Type 0
Stray r = (first r ≡ false) × ((j : ℕ) × (get_or r j false ≡ true))

-- the same of the label in the record of a live object
abbrev pub StrayLabel : List Bool → Type 0
StrayLabel r = (first r ≡ true) × Stray (take label_width (drop label_offset r))

-- "a record beyond the profile is absent, and a bit in it gets 11": any bit, in a record from the n-th on, where n are in use
abbrev pub BitBeyond : ℕ → List (List Bool) → Type 0
BitBeyond n records = (i : ℕ) × (n ≤ i) × ((j : ℕ) × (get_or (get_or records i []) j false ≡ true))

-- "an absent table record .. with another of its own bits set", or a bit beyond the subjects in use
abbrev pub StrayInTable : Profile → List ℕ → Type 0
StrayInTable p b = ((i : ℕ) × Stray (get_or (table_records b) i [])) ⊎ BitBeyond p.subjects (table_records b)

-- "an absent .. object record or label with another of its own bits set", or a bit beyond the objects in use
abbrev pub StrayInObjects : Profile → List ℕ → Type 0
StrayInObjects p b =
    ((i : ℕ) × (Stray (get_or (object_records b) i []) ⊎ StrayLabel (get_or (object_records b) i []))) ⊎ BitBeyond p.objects (object_records b)

-- "a clearance .. outside its profile", "a .. label outside its profile": of somebody enrolled, of some object
abbrev pub ClearanceOutside : Profile → List Subject → Type 0
ClearanceOutside p l = (s : ℕ) × (a : Level) × (clearance_at l s ≡ Some a) × LevelOutside p a

abbrev pub LabelOutside : Profile → List Object → Type 0
LabelOutside p l = (o : ℕ) × (a : Level) × ((object_at l o).label ≡ Some a) × LevelOutside p a

-- "an absent subject owns, has a right or holds"
abbrev pub AbsentActs : Monitor → Type 0
AbsentActs m =
    (s : ℕ) × (o : ℕ) × (NotIn m s × ((((object m o).live ≡ true) × ((object m o).owner ≡ s))
    ⊎ ((rights_of (object m o) s ≢ 0) ⊎ (held_by (object m o) s ≢ 0))))

-- "a parent that isn't live, .. where parent bits above 64 or a chain of parents that does not end counts too" (change request §11)
abbrev pub ParentMissing : Monitor → Type 0
ParentMissing m =
    ((o : ℕ) × (p : ℕ) × ((object m o).parent ≡ suc p) × ((object m p).live ≢ true))
    ⊎ (((o : ℕ) × (64 < (object m o).parent))
    ⊎ ((o : ℕ) × (Ends m.objects (suc o) → ⊥)))

-- a stray bit, or one beyond the profile, in the table or in the object records of an image
abbrev pub StrayInImage : Profile → List ℕ → Type 0
StrayInImage p b = StrayInTable p (take table_size b) ⊎ StrayInObjects p (drop table_size b)

-- "a table or image with a clearance or label outside its profile"
abbrev pub OutsideInImage : Profile → List ℕ → Type 0
OutsideInImage p b = ClearanceOutside p (monitor_from p b).subjects ⊎ LabelOutside p (monitor_from p b).objects

-- "Tables are checked 10, 11"; "16, a profile outside these ranges, before anything else is read, or a table or image with a clearance or
-- label outside its profile, checked directly after 11": two rows with one number
abbrev pub table_causes : Profile → List ℕ → Causes
table_causes p b =
    row OutsideProfile (ProfileOutside p)
    (row WrongLength (length b ≢ table_size)
    (row StrayBits (StrayInTable p b)
    (row OutsideProfile (ClearanceOutside p (table_from b))
    none)))

-- "images 10, 11, 12, 6, 7, 8, 9, each over the whole image before the next", with 16 as for tables, 18 "after 9", 19 "after 18" and 20
-- "after 19"
abbrev pub image_causes : Profile → List ℕ → Causes
image_causes p b =
    row OutsideProfile (ProfileOutside p)
    (row WrongLength (length b ≢ image_size)
    (row StrayBits (StrayInImage p b)
    (row OutsideProfile (OutsideInImage p b)
    (row AbsentSubject (AbsentActs (monitor_from p b))
    (row NoRight (Discretionary (monitor_from p b) → ⊥)
    (row NoLabel (Labelled (monitor_from p b) → ⊥)
    (row SimpleBroken (Simple (monitor_from p b) → ⊥)
    (row StarBroken (Star (monitor_from p b) → ⊥)
    (row WallBroken (Wall (monitor_from p b) → ⊥)
    (row ParentNotLive (ParentMissing (monitor_from p b))
    (row HierarchyBroken ((o : ℕ) × (q : ℕ) × LabelBelow (monitor_from p b) o q)
    none)))))))))))
