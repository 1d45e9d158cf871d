-- Each rule keeps the objects under each other as change request §11 has it: parents are live, chains of them end, labels rise. What a delete leaves
-- is gone exactly if it is the object or below it.
-- Assumes nothing.
use Prim.Native.Nat.{ℕ, zero, suc, ◌<◌}
use native.Mathlib.Omega.{arith}
use native.Mathlib.Decide.{ℕ_discrete}
use mathlib.Core.Path.{◌≡◌, refl, sym, ap, ◌∙◌, subst}
use mathlib.Core.Logic.{◌⊎◌, inl, inr, ⊎_elim, ◌≢◌}
use mathlib.Core.Bool.{true, false, cond}
use mathlib.Core.List.{List}
use lib.Seq.{get_or-set_other}
use lib.ListN.{set}
use Rattle.model.specs.declared.Object.{Object}
use Rattle.model.specs.declared.Monitor.{Monitor}
use Rattle.model.specs.declared.Creation.{Creation}
use Rattle.model.specs.Levels.{Label, Dominates, present}
use Rattle.model.specs.declared.Request.{Request}
use Rattle.model.specs.declared.Request.TheVariants.{Get, Release, Give, Rescind, Create, Delete, ChangeLevel, SetCompanies}
use Rattle.model.specs.declared.Decision.TheVariants.{Granted}
use Rattle.model.specs.State.{no_object, object_at, object, ObjectShape, WellFormed}
use Rattle.model.specs.Hierarchy.{parent_at, Meets, here, further, Ends, none, onward, Below, below, without_below, parent_live, label_under, labels_rise, Hierarchy}
use Rattle.model.specs.Requests.{InRange}
use Rattle.model.specs.Rules.{target, changed, created, spared, afterwards, checks}
use Rattle.model.proofs.Tests.{split, apart, cond-true, cond-false, not_on, set_all, implies-out, implies-in, all-out, all_in}
use Rattle.model.proofs.Levels.{dominates-decides}
use Rattle.model.proofs.Hierarchy.{meets-decides, below-gone}
use Rattle.model.proofs.After.{object-there}
use Rattle.invariants.proofs.Granted.{granted-create, granted-change}

-- ---- the parent of an object

-- one that has a parent is live, and so its parent is where going up from it leads
pub parent-shape : (l : List Object) (o : ℕ) → ObjectShape (object_at l o) → parent_at l o ≡ (object_at l o).parent
parent-shape l o S =
    split (object_at l o).live
    (λ e. cond-true (object_at l o).live _ _ e)
    (λ e. cond-false (object_at l o).live _ _ e ∙ ap (λ (ob : Object). ob.parent) (sym (S.not_live e)))

pub parent_is : (m : Monitor) → WellFormed m → (o : ℕ) → parent_at m.objects o ≡ (object m o).parent
parent_is m W o = parent-shape m.objects o (W.objects_formed o).shape

-- ---- what a delete leaves

-- it is the object or below it
abbrev pub Goes : Monitor → ℕ → ℕ → Type 0
Goes m o j = (j ≡ o) ⊎ Below m.objects o j

module _ (s o : ℕ) (m : Monitor) (W : WellFormed m) (h : o < 64) where
  abbrev after : Monitor
  after = afterwards (Delete s o) m

  -- the test, at another object
  other-left : (j : ℕ) → j ≢ o → object after j ≡ cond (below m.objects o j) no_object (object m j)
  other-left j n = get_or-set_other (without_below o m.objects) o j _ no_object n ∙ below-gone m.objects o j

  -- "Deleting an object deletes everything below it"
  pub goes : (j : ℕ) → Goes m o j → object after j ≡ no_object
  unfolding changed
  goes j (inl e) = ap (object after) e ∙ object-there (Delete s o) m W h
  goes j (inr b) =
      elim (ℕ_discrete j o) [
        | yes e ↦ ap (object after) e ∙ object-there (Delete s o) m W h
        | no n ↦ other-left j n ∙ cond-true (below m.objects o j) _ _ ((meets-decides m.objects (omega (arith, W.objects-length)) o h (parent_at m.objects j)).1 b)
      ]

  -- and nothing else: each object goes or is as it was
  pub goes-or-stays : (j : ℕ) → Goes m o j ⊎ ((Goes m o j → ⊥) × (object after j ≡ object m j))
  goes-or-stays j =
      let decides = meets-decides m.objects (omega (arith, W.objects-length)) o h (parent_at m.objects j) in
      elim (ℕ_discrete j o) [
        | yes e ↦ inl (inl e)
        | no n ↦ split (below m.objects o j)
            (λ b. inl (inr (decides.0 b)))
            (λ b. inr (λ g. ⊎_elim (λ e. n e) (λ c. apart (decides.1 c) b) g, other-left j n ∙ cond-false (below m.objects o j) _ _ b))
      ]

  -- "child by child down to the last": what is under an object that goes goes too
  pub child-goes : (j p : ℕ) → (object m j).parent ≡ suc p → Goes m o p → Goes m o j
  child-goes j p e g =
      inr (subst (Meets m.objects o) (sym (parent_is m W j ∙ e))
      (⊎_elim (λ (q : p ≡ o). subst (λ (k : ℕ). Meets m.objects o (suc k)) (sym q) here) (λ b. further p b) g))

-- ---- chains of parents in another list

-- from 0, "none", or from an object
chain-of : (k : List Object) (q : ℕ) → ((x : ℕ) → q ≡ suc x → Ends k (suc x)) → Ends k q
chain-of k zero f = none
chain-of k (suc x) f = f x refl

-- where no object has another parent than before
ends-fewer : (l k : List Object) → ((y x : ℕ) → parent_at k y ≡ suc x → parent_at l y ≡ suc x)
    → (p : ℕ) → Ends l p → (q : ℕ) → ((x : ℕ) → q ≡ suc x → p ≡ suc x) → Ends k q
ends-fewer l k f p none q g = chain-of k q (λ x e. absurd (omega (arith, g x e)))
ends-fewer l k f p (onward y h) q g =
    chain-of k q (λ x e.
    subst (λ (z : ℕ). Ends k (suc z)) (omega (arith, g x e)) (onward y (ends-fewer l k f (parent_at l y) h (parent_at k y) (f y))))

-- where object o alone has another record, and none has it as its parent
ends-beside : (l k : List Object) (o : ℕ) → ((y : ℕ) → y ≢ o → parent_at k y ≡ parent_at l y) → ((y : ℕ) → parent_at l y ≢ suc o)
    → (p : ℕ) → Ends l p → p ≢ suc o → Ends k p
ends-beside l k o same free p none n = none
ends-beside l k o same free p (onward y h) n =
    onward y (subst (Ends k) (sym (same y (λ e. n (ap suc e)))) (ends-beside l k o same free (parent_at l y) h (free y)))

-- ---- the rule of labels, and its test

pub rise-out : (m : Monitor) → labels_rise m.objects ≡ true
    → (o p : ℕ) → (object m o).parent ≡ suc p → present (object m o).label ≡ true → Dominates (object m o).label (object m p).label
unfolding labels_rise label_under
rise-out m e o p q w =
    (dominates-decides _ _).0
    (implies-out (present (object m o).label) _
    (subst (λ (k : ℕ). label_under m.objects (object m o).label k ≡ true) q
    (all-out (λ (ob : Object). label_under m.objects ob.label ob.parent) no_object m.objects refl e o)) w)

pub rise-in : (m : Monitor) → ((o p : ℕ) → (object m o).parent ≡ suc p → present (object m o).label ≡ true → Dominates (object m o).label (object m p).label)
    → labels_rise m.objects ≡ true
unfolding labels_rise label_under
rise-in m h = all_in (λ (ob : Object). label_under m.objects ob.label ob.parent) no_object m.objects (λ o. go (object m o).label (object m o).parent (h o))
  where
    go : (a : Label) (q : ℕ) → ((p : ℕ) → q ≡ suc p → present a ≡ true → Dominates a (object m p).label) → label_under m.objects a q ≡ true
    go a zero h = refl
    go a (suc p) h = implies-in (present a) _ (λ w. (dominates-decides _ _).1 (h p refl w))

-- ---- each rule keeps all three

-- what they look at of a record
pub record Alike (a b : Object) : Type 0 where
  pub live : a.live ≡ b.live
  pub parent : a.parent ≡ b.parent

alike-parent : (m n : Monitor) → ((j : ℕ) → Alike (object n j) (object m j)) → (j : ℕ) → parent_at n.objects j ≡ parent_at m.objects j
alike-parent m n A j = λ i. cond ((A j).live i) ((A j).parent i) 0

-- where all records are alike, and the labels rise
hierarchy-alike : (m n : Monitor) → Hierarchy m → ((j : ℕ) → Alike (object n j) (object m j))
    → ((o p : ℕ) → (object n o).parent ≡ suc p → present (object n o).label ≡ true → Dominates (object n o).label (object n p).label) → Hierarchy n
hierarchy-alike m n H A rise =
    record {
      parents_live = λ o p e. (A p).live ∙ H.parents_live o p (sym (A o).parent ∙ e);
      chains_end = λ o. ends-fewer m.objects n.objects (λ y x e. sym (alike-parent m n A y) ∙ e) (suc o) (H.chains_end o) (suc o) (λ x e. e);
      rising_labels = rise;
    }

-- and where the labels are the same
hierarchy-same : (m n : Monitor) → Hierarchy m → ((j : ℕ) → Alike (object n j) (object m j)) → ((j : ℕ) → (object n j).label ≡ (object m j).label) → Hierarchy n
hierarchy-same m n H A L =
    hierarchy-alike m n H A
    (λ o p e w. subst (λ (a : Label). Dominates (object n o).label a) (sym (L p))
    (subst (λ (a : Label). Dominates a (object m p).label) (sym (L o))
    (H.rising_labels o p (sym (A o).parent ∙ e) (ap present (sym (L o)) ∙ w))))

-- a store of a record that is alike and has the same label
module _ (m : Monitor) (H : Hierarchy m) (q : Request) (keeps : spared q m.objects ≡ m.objects)
    (alike : Alike (changed q (object m (target q))) (object m (target q))) where
  alike-after : (j : ℕ) → Alike (object (afterwards q m) j) (object m j)
  alike-after j =
      subst (λ (l : List Object). Alike (object_at (set l (target q) (changed q (object m (target q)))) j) (object m j)) (sym keeps)
      (set_all (λ i ob. Alike ob (object m i)) m.objects (target q) _ no_object (λ i. record { live = refl; parent = refl }) alike j)

  kept_same : (changed q (object m (target q))).label ≡ (object m (target q)).label → Hierarchy (afterwards q m)
  kept_same e =
      hierarchy-same m (afterwards q m) H alike-after
      (λ j. subst (λ (l : List Object). (object_at (set l (target q) (changed q (object m (target q)))) j).label ≡ (object m j).label) (sym keeps)
      (set_all (λ i ob. ob.label ≡ (object m i).label) m.objects (target q) _ no_object (λ i. refl) e j))

  kept-rising : labels_rise (afterwards q m).objects ≡ true → Hierarchy (afterwards q m)
  kept-rising e = hierarchy-alike m (afterwards q m) H alike-after (rise-out (afterwards q m) e)

-- ---- create: the new object is under a live one or none, and nothing is under it
module _ (s o : ℕ) (c : Creation) (m : Monitor) (W : WellFormed m) (H : Hierarchy m) (h : o < 64) (e : checks (Create s o c) m ≡ Granted) where
  made : Monitor
  made = afterwards (Create s o c) m

  dead : (object m o).live ≡ false
  dead = not_on _ (granted-create m s o c e).free

  there : object made o ≡ created s c
  unfolding made changed
  there = object-there (Create s o c) m W h

  elsewhere : (j : ℕ) → j ≢ o → object made j ≡ object m j
  unfolding made
  elsewhere j n = get_or-set_other m.objects o j _ no_object n

  -- what is live is another object
  not_new : (p : ℕ) → (object m p).live ≡ true → p ≢ o
  not_new p l q = apart l (ap (λ (k : ℕ). (object m k).live) q ∙ dead)

  -- the parent of the new one is live
  parent-there : (p : ℕ) → c.parent ≡ suc p → (object m p).live ≡ true
  unfolding parent_live
  parent-there p q = subst (λ (k : ℕ). parent_live m.objects k ≡ true) q (granted-create m s o c e).parent

  -- the parents of the others are live
  parent_is_live : (y p : ℕ) → (object made y).parent ≡ suc p → (object m p).live ≡ true
  parent_is_live y p q =
      elim (ℕ_discrete y o) [
        | yes w ↦ parent-there p (sym (ap (λ (k : ℕ). (object made k).parent) w ∙ ap (λ (ob : Object). ob.parent) there) ∙ q)
        | no n ↦ H.parents_live y p (sym (ap (λ (ob : Object). ob.parent) (elsewhere y n)) ∙ q)
      ]

  chain : (p : ℕ) → Ends m.objects p → p ≢ suc o → Ends made.objects p
  chain =
      ends-beside m.objects made.objects o
      (λ y n. ap (λ (ob : Object). cond ob.live ob.parent 0) (elsewhere y n))
      (λ y q. not_new o (H.parents_live y o (sym (parent_is m W y) ∙ q)) refl)

  new-chain : (q : ℕ) → c.parent ≡ q → Ends made.objects q
  new-chain zero w = none
  new-chain (suc p) w = chain (suc p) (H.chains_end p) (λ v. not_new p (parent-there p w) (omega (arith, v)))

  created-hierarchy : Hierarchy made
  created-hierarchy =
      record {
        parents_live = λ y p q. let l = parent_is_live y p q in ap (λ (ob : Object). ob.live) (elsewhere p (not_new p l)) ∙ l;
        chains_end = λ y.
            elim (ℕ_discrete y o) [
              | yes w ↦ subst (λ (k : ℕ). Ends made.objects (suc k)) (sym w)
                  (onward o (subst (Ends made.objects) (sym (ap (λ (ob : Object). cond ob.live ob.parent 0) there)) (new-chain c.parent refl)))
              | no n ↦ chain (suc y) (H.chains_end y) (λ w. n (omega (arith, w)))
            ];
        rising_labels = λ y p q w.
            elim (ℕ_discrete y o) [
              | yes v ↦ apart w (ap present (ap (λ (k : ℕ). (object made k).label) v ∙ ap (λ (ob : Object). ob.label) there))
              | no n ↦ let same = elsewhere y n in
                  let other = elsewhere p (not_new p (parent_is_live y p q)) in
                  subst (λ (a : Object). Dominates a.label (object made p).label) (sym same)
                  (subst (λ (a : Object). Dominates (object m y).label a.label) (sym other)
                  (H.rising_labels y p (sym (ap (λ (ob : Object). ob.parent) same) ∙ q) (sym (ap (λ (ob : Object). present ob.label) same) ∙ w)))
            ];
      }

-- ---- delete: what stays keeps its parent, which stays too
module _ (s o : ℕ) (m : Monitor) (W : WellFormed m) (H : Hierarchy m) (h : o < 64) where
  left : Monitor
  left = afterwards (Delete s o) m

  -- who has a parent has not gone, and neither has its parent
  family : {A : Type 0} (y p : ℕ) → (object left y).parent ≡ suc p → (object left y ≡ object m y → object left p ≡ object m p → (object m y).parent ≡ suc p → A) → A
  unfolding left
  family y p q f =
      ⊎_elim (λ g. gone g)
      (λ r. let e = sym (ap (λ (ob : Object). ob.parent) r.1) ∙ q in
      ⊎_elim (λ g. absurd (r.0 (child-goes s o m W h y p e g))) (λ t. f r.1 t.1 e) (goes-or-stays s o m W h p)) (goes-or-stays s o m W h y)
    where
      gone : {A : Type 0} → Goes m o y → A
      gone g = absurd (omega (arith, sym (ap (λ (ob : Object). ob.parent) (goes s o m W h y g)) ∙ q))

  left-parent : (y x : ℕ) → parent_at left.objects y ≡ suc x → (object left y).parent ≡ suc x
  left-parent y x e =
      split (object left y).live (λ l. sym (cond-true (object left y).live _ _ l) ∙ e)
      (λ l. absurd (omega (arith, sym (cond-false (object left y).live (object left y).parent 0 l) ∙ e)))

  deleted-hierarchy : Hierarchy left
  deleted-hierarchy =
      record {
        parents_live = λ y p q. family y p q (λ a b e. ap (λ (ob : Object). ob.live) b ∙ H.parents_live y p e);
        chains_end = λ y.
            ends-fewer m.objects left.objects (λ z x q. family z x (left-parent z x q) (λ a b e. parent_is m W z ∙ e))
            (suc y) (H.chains_end y) (suc y) (λ x e. e);
        rising_labels = λ y p q w.
            family y p q (λ a b e.
            subst (λ (ob : Object). Dominates ob.label (object left p).label) (sym a)
            (subst (λ (ob : Object). Dominates (object m y).label ob.label) (sym b)
            (H.rising_labels y p e (sym (ap (λ (ob : Object). present ob.label) a) ∙ w))));
      }

pub changed-hierarchy : (q : Request) (m : Monitor) → WellFormed m → Hierarchy m → InRange q → checks q m ≡ Granted → Hierarchy (afterwards q m)
unfolding changed made left
changed-hierarchy (Get s o x) m W H r e = kept_same m H (Get s o x) refl (record { live = refl; parent = refl }) refl
changed-hierarchy (Release s o x) m W H r e = kept_same m H (Release s o x) refl (record { live = refl; parent = refl }) refl
changed-hierarchy (Give s t o x) m W H r e = kept_same m H (Give s t o x) refl (record { live = refl; parent = refl }) refl
changed-hierarchy (Rescind s t o x) m W H r e = kept_same m H (Rescind s t o x) refl (record { live = refl; parent = refl }) refl
changed-hierarchy (Create s o c) m W H r e = created-hierarchy s o c m W H r.1 e
changed-hierarchy (Delete s o) m W H r e = deleted-hierarchy s o m W H r.1
changed-hierarchy (ChangeLevel s o v) m W H r e =
    kept-rising m H (ChangeLevel s o v) refl (record { live = refl; parent = refl }) (granted-change m s o v e).rise
changed-hierarchy (SetCompanies s o n) m W H r e = kept_same m H (SetCompanies s o n) refl (record { live = refl; parent = refl }) refl

-- ---- where no object is

pub none-hierarchy : (m : Monitor) → ((o : ℕ) → object m o ≡ no_object) → Hierarchy m
none-hierarchy m z =
    record {
      parents_live = λ o p e. absurd (omega (arith, sym (ap (λ (ob : Object). ob.parent) (z o)) ∙ e));
      chains_end = λ o. onward o (subst (Ends m.objects) (sym (ap (λ (ob : Object). cond ob.live ob.parent 0) (z o))) none);
      rising_labels = λ o p e w. absurd (omega (arith, sym (ap (λ (ob : Object). ob.parent) (z o)) ∙ e));
    }
