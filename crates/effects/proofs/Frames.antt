-- Frame laws: what one request leaves as it was, and what alone changes it.
-- Assumes nothing.
use Prim.Native.Nat.{ℕ, ◌<◌}
use mathlib.Core.Path.{◌≡◌, refl, sym, ap, ◌∙◌, subst}
use mathlib.Core.Logic.{◌≢◌, ◌⊎◌, inl, inr}
use mathlib.Core.Bool.{true, false, not}
use mathlib.Core.List.{List, [], ◌∷◌}
use lib.ListN.{get_or, set}
use Rattle.model.specs.declared.Object.{Object}
use Rattle.model.specs.declared.Monitor.{Monitor}
use Rattle.model.specs.declared.Mode.{Mode}
use Rattle.model.specs.declared.Creation.{Creation}
use Rattle.model.specs.declared.Request.{Request}
use Rattle.model.specs.declared.Request.TheVariants.{Get, Release, Give, Rescind, Create, Delete, ChangeLevel, SetCompanies}
use Rattle.model.specs.declared.Decision.TheVariants.{Granted}
use Rattle.model.specs.declared.Response.{Response}
use Rattle.model.specs.Modes.{has, add, remove}
use Rattle.model.specs.State.{object_count, no_object, object_at, object, rights_of, held_by, WellFormed}
use Rattle.model.specs.Hierarchy.{parent_at, below}
use Rattle.model.specs.Rules.{target, changed, spared, checks, created, step}
use Rattle.model.specs.Runs.{respond, after}
use Rattle.model.proofs.Tests.{set_all, cond-all, split, apart, clash, not_on, and_both, or_right}
use Rattle.model.proofs.Modes.{has-add, has-remove, same_mode, same-mode, held-add, held-remove}
use Rattle.model.proofs.Hierarchy.{below-gone, meets-sound}
use Rattle.model.proofs.After.{object-there}
use Rattle.invariants.proofs.Granted.{granted-create}
use Rattle.invariants.proofs.Steps.{step-all, step-granted, respond-all}
use Rattle.invariants.proofs.Form.{no-modes}
use Rattle.invariants.proofs.Pairs.{none-held}
use Rattle.effects.specs.Effects.{GivesRight, TakesRight, GetsAccess, EndsAccess, ChangesLabel, SetsNumbers, TakesAlong}

-- no request changes a subject
pub subjects-kept : (q : Request) (m : Monitor) → (step q m).monitor.subjects ≡ m.subjects
subjects-kept q m = step-all (λ n. n.subjects ≡ m.subjects) q m refl (λ e. refl)

-- and no list of byte strings does
pub subjects-kept-after : (bs : List (List ℕ)) (m : Monitor) → (after bs m).subjects ≡ m.subjects
unfolding after
subjects-kept-after [] m = refl
subjects-kept-after (b ∷ bs) m =
    subjects-kept-after bs (respond b m).monitor
    ∙ respond-all (λ (r : Response). r.monitor.subjects ≡ m.subjects) b m (λ e. refl) (λ q e. subjects-kept q m)

-- another object than that of the request is as it was, or a delete takes it along
spared-or-taken : (P : Object → Type 0) (q : Request) (m : Monitor) (o : ℕ) → P (object m o) → (TakesAlong q m o → P no_object) → P (object_at (spared q m.objects) o)
spared-or-taken P (Get s t x) m o p z = p
spared-or-taken P (Release s t x) m o p z = p
spared-or-taken P (Give s u t x) m o p z = p
spared-or-taken P (Rescind s u t x) m o p z = p
spared-or-taken P (Create s t c) m o p z = p
spared-or-taken P (Delete s t) m o p z =
    subst P (sym (below-gone m.objects t o))
    (cond-all P (below m.objects t o) no_object (object m o) (λ b. z (s, t, refl, meets-sound object_count m.objects t (parent_at m.objects o) b)) (λ b. p))
spared-or-taken P (ChangeLevel s t l) m o p z = p
spared-or-taken P (SetCompanies s t k) m o p z = p

-- what holds of the record of object o, of the record that a granted request on it makes, and of no object where a delete takes it along, holds
-- of it afterwards
pub frame : (P : Object → Type 0) (q : Request) (m : Monitor) (o : ℕ) → P (object m o)
    → (checks q m ≡ Granted → target q ≡ o → P (changed q (object m (target q)))) → (TakesAlong q m o → P no_object) → P (object (step q m).monitor o)
frame P q m o p f z =
    step-all (λ n. P (object n o)) q m p
    (λ g. set_all (λ j ob. j ≡ o → P ob) (spared q m.objects) (target q) _ no_object
    (λ j e. subst (λ (k : ℕ). P (object_at (spared q m.objects) k)) (sym e) (spared-or-taken P q m o p z)) (f g) o refl)

-- no record changes but that of the request's object and, in a delete, of those below it
pub others-kept : (q : Request) (m : Monitor) (o : ℕ) → o ≢ target q → (object (step q m).monitor o ≡ object m o) ⊎ TakesAlong q m o
others-kept q m o h = frame (λ (ob : Object). (ob ≡ object m o) ⊎ TakesAlong q m o) q m o (inl refl) (λ g e. absurd (h (sym e))) (λ t. inr t)

-- a granted create finds an object that is not live
pub create-finds : (s o : ℕ) (c : Creation) (m : Monitor) → checks (Create s o c) m ≡ Granted → (object m o).live ≡ false
create-finds s o c m g = not_on _ (granted-create m s o c g).free

-- what a granted request on a live object that stays live leaves of its record
changed-owner : (q : Request) (m : Monitor) → (object m (target q)).live ≡ true → checks q m ≡ Granted
    → (changed q (object m (target q))).live ≡ true → (changed q (object m (target q))).owner ≡ (object m (target q)).owner
unfolding changed
changed-owner (Get s o x) m live g e = refl
changed-owner (Release s o x) m live g e = refl
changed-owner (Give s t o x) m live g e = refl
changed-owner (Rescind s t o x) m live g e = refl
changed-owner (Create s o c) m live g e = apart live (create-finds s o c m g)
changed-owner (Delete s o) m live g e = clash (sym e)
changed-owner (ChangeLevel s o l) m live g e = refl
changed-owner (SetCompanies s o k) m live g e = refl

changed-parent : (q : Request) (m : Monitor) → (object m (target q)).live ≡ true → checks q m ≡ Granted
    → (changed q (object m (target q))).live ≡ true → (changed q (object m (target q))).parent ≡ (object m (target q)).parent
unfolding changed
changed-parent (Get s o x) m live g e = refl
changed-parent (Release s o x) m live g e = refl
changed-parent (Give s t o x) m live g e = refl
changed-parent (Rescind s t o x) m live g e = refl
changed-parent (Create s o c) m live g e = apart live (create-finds s o c m g)
changed-parent (Delete s o) m live g e = clash (sym e)
changed-parent (ChangeLevel s o l) m live g e = refl
changed-parent (SetCompanies s o k) m live g e = refl

-- a row after a mode was added at u: what is there was there, or is that mode
row-add : (row : List ℕ) (u : ℕ) (y x : Mode) → ((j : ℕ) → get_or row j 0 < 16) → (t : ℕ) → has x (get_or (set row u (add y (get_or row u 0))) t 0) ≡ true
    → (has x (get_or row t 0) ≡ true) ⊎ ((u ≡ t) × (y ≡ x))
row-add row u y x fits =
    set_all (λ j k. has x k ≡ true → (has x (get_or row j 0) ≡ true) ⊎ ((u ≡ j) × (y ≡ x))) row u _ 0 (λ j w. inl w)
    (λ w. held-add y x _ (fits u) w (λ p. inr (refl, sym p)) (λ p. inl p))

-- what was there still is
row-add-keeps : (row : List ℕ) (u : ℕ) (y x : Mode) → ((j : ℕ) → get_or row j 0 < 16) → (t : ℕ) → has x (get_or row t 0) ≡ true
    → has x (get_or (set row u (add y (get_or row u 0))) t 0) ≡ true
row-add-keeps row u y x fits t =
    set_all (λ j k. has x (get_or row j 0) ≡ true → has x k ≡ true) row u _ 0 (λ j w. w) (λ w. has-add x y _ (fits u) ∙ or_right (same_mode x y) _ w) t

-- after a mode was removed at u
row-remove : (row : List ℕ) (u : ℕ) (y x : Mode) → ((j : ℕ) → get_or row j 0 < 16) → (t : ℕ) → has x (get_or (set row u (remove y (get_or row u 0))) t 0) ≡ true
    → has x (get_or row t 0) ≡ true
row-remove row u y x fits t =
    set_all (λ j k. has x k ≡ true → has x (get_or row j 0) ≡ true) row u _ 0 (λ j w. w) (λ w. held-remove y x _ (fits u) w) t

row-remove-keeps : (row : List ℕ) (u : ℕ) (y x : Mode) → ((j : ℕ) → get_or row j 0 < 16) → (t : ℕ) → has x (get_or row t 0) ≡ true
    → (has x (get_or (set row u (remove y (get_or row u 0))) t 0) ≡ true) ⊎ ((u ≡ t) × (y ≡ x))
row-remove-keeps row u y x fits t =
    set_all (λ j k. has x (get_or row j 0) ≡ true → (has x k ≡ true) ⊎ ((u ≡ j) × (y ≡ x))) row u _ 0 (λ j w. inl w)
    (λ w. split (same_mode x y) (λ p. inr (refl, sym (same-mode x y p)))
    (λ p. inl (has-remove x y _ (fits u) ∙ and_both (ap not p) w))) t

-- the second of two cases, said otherwise
or-else : {A B C : Type 0} → (B → C) → A ⊎ B → A ⊎ C
or-else f (inl a) = inl a
or-else f (inr b) = inr (f b)

changed-rights : (q : Request) (m : Monitor) → WellFormed m → (object m (target q)).live ≡ true → checks q m ≡ Granted
    → (t : ℕ) (x : Mode) → has x (rights_of (changed q (object m (target q))) t) ≡ true
    → (has x (rights_of (object m (target q)) t) ≡ true) ⊎ GivesRight q t (target q) x
unfolding changed
changed-rights (Get s o y) m W live g t x e = inl e
changed-rights (Release s o y) m W live g t x e = inl e
changed-rights (Give s u o y) m W live g t x e = or-else (λ p. (s, λ i. Give s (p.0 i) o (p.1 i))) (row-add (object m o).rights u y x (W.objects_formed o).shape.rights-fit t e)
changed-rights (Rescind s u o y) m W live g t x e = inl (row-remove (object m o).rights u y x (W.objects_formed o).shape.rights-fit t e)
changed-rights (Create s o c) m W live g t x e = apart live (create-finds s o c m g)
changed-rights (Delete s o) m W live g t x e = none-held x _ (no-modes t) e
changed-rights (ChangeLevel s o l) m W live g t x e = inl e
changed-rights (SetCompanies s o k) m W live g t x e = inl e

changed-access : (q : Request) (m : Monitor) → WellFormed m → (object m (target q)).live ≡ true → checks q m ≡ Granted
    → (t : ℕ) (x : Mode) → has x (held_by (changed q (object m (target q))) t) ≡ true
    → (has x (held_by (object m (target q)) t) ≡ true) ⊎ GetsAccess q t (target q) x
unfolding changed
changed-access (Get s o y) m W live g t x e = or-else (λ p. λ i. Get (p.0 i) o (p.1 i)) (row-add (object m o).held s y x (W.objects_formed o).shape.held_fit t e)
changed-access (Release s o y) m W live g t x e = inl (row-remove (object m o).held s y x (W.objects_formed o).shape.held_fit t e)
changed-access (Give s u o y) m W live g t x e = inl e
changed-access (Rescind s u o y) m W live g t x e = inl (row-remove (object m o).held u y x (W.objects_formed o).shape.held_fit t e)
changed-access (Create s o c) m W live g t x e = apart live (create-finds s o c m g)
changed-access (Delete s o) m W live g t x e = none-held x _ (no-modes t) e
changed-access (ChangeLevel s o l) m W live g t x e = inl e
changed-access (SetCompanies s o k) m W live g t x e = inl e

kept-right : (q : Request) (m : Monitor) → WellFormed m → (object m (target q)).live ≡ true → checks q m ≡ Granted → (changed q (object m (target q))).live ≡ true
    → (t : ℕ) (x : Mode) → has x (rights_of (object m (target q)) t) ≡ true
    → (has x (rights_of (changed q (object m (target q))) t) ≡ true) ⊎ TakesRight q t (target q) x
unfolding changed
kept-right (Get s o y) m W live g stays t x e = inl e
kept-right (Release s o y) m W live g stays t x e = inl e
kept-right (Give s u o y) m W live g stays t x e = inl (row-add-keeps (object m o).rights u y x (W.objects_formed o).shape.rights-fit t e)
kept-right (Rescind s u o y) m W live g stays t x e = or-else (λ p. (s, λ i. Rescind s (p.0 i) o (p.1 i))) (row-remove-keeps (object m o).rights u y x (W.objects_formed o).shape.rights-fit t e)
kept-right (Create s o c) m W live g stays t x e = apart live (create-finds s o c m g)
kept-right (Delete s o) m W live g stays t x e = clash (sym stays)
kept-right (ChangeLevel s o l) m W live g stays t x e = inl e
kept-right (SetCompanies s o k) m W live g stays t x e = inl e

kept-access : (q : Request) (m : Monitor) → WellFormed m → (object m (target q)).live ≡ true → checks q m ≡ Granted → (changed q (object m (target q))).live ≡ true
    → (t : ℕ) (x : Mode) → has x (held_by (object m (target q)) t) ≡ true
    → (has x (held_by (changed q (object m (target q))) t) ≡ true) ⊎ EndsAccess q t (target q) x
unfolding changed
kept-access (Get s o y) m W live g stays t x e = inl (row-add-keeps (object m o).held s y x (W.objects_formed o).shape.held_fit t e)
kept-access (Release s o y) m W live g stays t x e = or-else (λ p. inl (λ i. Release (p.0 i) o (p.1 i))) (row-remove-keeps (object m o).held s y x (W.objects_formed o).shape.held_fit t e)
kept-access (Give s u o y) m W live g stays t x e = inl e
kept-access (Rescind s u o y) m W live g stays t x e = or-else (λ p. inr (s, λ i. Rescind s (p.0 i) o (p.1 i))) (row-remove-keeps (object m o).held u y x (W.objects_formed o).shape.held_fit t e)
kept-access (Create s o c) m W live g stays t x e = apart live (create-finds s o c m g)
kept-access (Delete s o) m W live g stays t x e = clash (sym stays)
kept-access (ChangeLevel s o l) m W live g stays t x e = inl e
kept-access (SetCompanies s o k) m W live g stays t x e = inl e

changed-label : (q : Request) (m : Monitor) → (object m (target q)).live ≡ true → checks q m ≡ Granted → (changed q (object m (target q))).live ≡ true
    → ((changed q (object m (target q))).label ≡ (object m (target q)).label) ⊎ ChangesLabel q (target q) (changed q (object m (target q))).label
unfolding changed
changed-label (Get s o x) m live g e = inl refl
changed-label (Release s o x) m live g e = inl refl
changed-label (Give s t o x) m live g e = inl refl
changed-label (Rescind s t o x) m live g e = inl refl
changed-label (Create s o c) m live g e = apart live (create-finds s o c m g)
changed-label (Delete s o) m live g e = clash (sym e)
changed-label (ChangeLevel s o l) m live g e = inr (s, l, refl, refl)
changed-label (SetCompanies s o k) m live g e = inl refl

changed-companies : (q : Request) (m : Monitor) → (object m (target q)).live ≡ true → checks q m ≡ Granted → (changed q (object m (target q))).live ≡ true
    → ((changed q (object m (target q))).companies ≡ (object m (target q)).companies) ⊎ SetsNumbers q (target q) (changed q (object m (target q))).companies
unfolding changed
changed-companies (Get s o x) m live g e = inl refl
changed-companies (Release s o x) m live g e = inl refl
changed-companies (Give s t o x) m live g e = inl refl
changed-companies (Rescind s t o x) m live g e = inl refl
changed-companies (Create s o c) m live g e = apart live (create-finds s o c m g)
changed-companies (Delete s o) m live g e = clash (sym e)
changed-companies (ChangeLevel s o l) m live g e = inl refl
changed-companies (SetCompanies s o k) m live g e = inr (s, refl)

module _ (q : Request) (m : Monitor) (W : WellFormed m) (o : ℕ) (live : (object m o).live ≡ true) (stays : (object (step q m).monitor o).live ≡ true) where
  at_target : target q ≡ o → (object m (target q)).live ≡ true
  at_target e = subst (λ (k : ℕ). (object m k).live ≡ true) (sym e) live

  -- an object that stays live keeps its owner
  pub owner-kept : (object (step q m).monitor o).owner ≡ (object m o).owner
  owner-kept =
      frame (λ (ob : Object). ob.live ≡ true → ob.owner ≡ (object m o).owner) q m o (λ e. refl)
      (λ g e h. changed-owner q m (at_target e) g h ∙ ap (λ (k : ℕ). (object m k).owner) e) (λ t l. clash (sym l)) stays

  -- and its parent
  pub parent-kept : (object (step q m).monitor o).parent ≡ (object m o).parent
  parent-kept =
      frame (λ (ob : Object). ob.live ≡ true → ob.parent ≡ (object m o).parent) q m o (λ e. refl)
      (λ g e h. changed-parent q m (at_target e) g h ∙ ap (λ (k : ℕ). (object m k).parent) e) (λ t l. clash (sym l)) stays

  -- gains a right only by give
  pub right-by-give : (t : ℕ) (x : Mode) → has x (rights_of (object (step q m).monitor o) t) ≡ true
      → (has x (rights_of (object m o) t) ≡ true) ⊎ GivesRight q t o x
  right-by-give t x =
      frame (λ (ob : Object). has x (rights_of ob t) ≡ true → (has x (rights_of (object m o) t) ≡ true) ⊎ GivesRight q t o x) q m o (λ e. inl e)
      (λ g e h. subst (λ (k : ℕ). (has x (rights_of (object m k) t) ≡ true) ⊎ GivesRight q t k x) e (changed-rights q m W (at_target e) g t x h))
      (λ d e. none-held x _ (no-modes t) e)

  -- gains an access only by get
  pub access-by-get : (t : ℕ) (x : Mode) → has x (held_by (object (step q m).monitor o) t) ≡ true
      → (has x (held_by (object m o) t) ≡ true) ⊎ GetsAccess q t o x
  access-by-get t x =
      frame (λ (ob : Object). has x (held_by ob t) ≡ true → (has x (held_by (object m o) t) ≡ true) ⊎ GetsAccess q t o x) q m o (λ e. inl e)
      (λ g e h. subst (λ (k : ℕ). (has x (held_by (object m k) t) ≡ true) ⊎ GetsAccess q t k x) e (changed-access q m W (at_target e) g t x h))
      (λ d e. none-held x _ (no-modes t) e)

  -- loses a right only by rescind
  pub right_kept : (t : ℕ) (x : Mode) → has x (rights_of (object m o) t) ≡ true
      → (has x (rights_of (object (step q m).monitor o) t) ≡ true) ⊎ TakesRight q t o x
  right_kept t x h =
      frame (λ (ob : Object). ob.live ≡ true → (has x (rights_of ob t) ≡ true) ⊎ TakesRight q t o x) q m o (λ l. inl h)
      (λ g e l. subst (λ (k : ℕ). (has x (rights_of (changed q (object m (target q))) t) ≡ true) ⊎ TakesRight q t k x) e
      (kept-right q m W (at_target e) g l t x (subst (λ (k : ℕ). has x (rights_of (object m k) t) ≡ true) (sym e) h))) (λ d l. clash (sym l)) stays

  -- loses an access only by release or rescind
  pub access-kept : (t : ℕ) (x : Mode) → has x (held_by (object m o) t) ≡ true
      → (has x (held_by (object (step q m).monitor o) t) ≡ true) ⊎ EndsAccess q t o x
  access-kept t x h =
      frame (λ (ob : Object). ob.live ≡ true → (has x (held_by ob t) ≡ true) ⊎ EndsAccess q t o x) q m o (λ l. inl h)
      (λ g e l. subst (λ (k : ℕ). (has x (held_by (changed q (object m (target q))) t) ≡ true) ⊎ EndsAccess q t k x) e
      (kept-access q m W (at_target e) g l t x (subst (λ (k : ℕ). has x (held_by (object m k) t) ≡ true) (sym e) h))) (λ d l. clash (sym l)) stays

  -- and changes its label only by change of level
  pub label-by-change : ((object (step q m).monitor o).label ≡ (object m o).label) ⊎ ChangesLabel q o (object (step q m).monitor o).label
  label-by-change =
      frame (λ (ob : Object). ob.live ≡ true → (ob.label ≡ (object m o).label) ⊎ ChangesLabel q o ob.label) q m o (λ e. inl refl)
      (λ g e h. subst (λ (k : ℕ). ((changed q (object m (target q))).label ≡ (object m k).label) ⊎ ChangesLabel q k (changed q (object m (target q))).label) e
      (changed-label q m (at_target e) g h)) (λ d l. clash (sym l)) stays

  -- and its company numbers only by kind 8
  pub companies-by-kind-8 : ((object (step q m).monitor o).companies ≡ (object m o).companies) ⊎ SetsNumbers q o (object (step q m).monitor o).companies
  companies-by-kind-8 =
      frame (λ (ob : Object). ob.live ≡ true → (ob.companies ≡ (object m o).companies) ⊎ SetsNumbers q o ob.companies) q m o (λ e. inl refl)
      (λ g e h. subst (λ (k : ℕ). ((changed q (object m (target q))).companies ≡ (object m k).companies) ⊎ SetsNumbers q k (changed q (object m (target q))).companies) e
      (changed-companies q m (at_target e) g h)) (λ d l. clash (sym l)) stays

-- after a granted create the record is what create says, whatever the slot held before
pub create-fresh : (s o : ℕ) (c : Creation) (m : Monitor) → WellFormed m → o < 64 → checks (Create s o c) m ≡ Granted
    → object (step (Create s o c) m).monitor o ≡ created s c
unfolding changed
create-fresh s o c m W h g =
    ap (λ (r : Response). object r.monitor o) (step-granted (Create s o c) m g) ∙ object-there (Create s o c) m W h
