-- Properties of pairs of accesses that one subject holds: what keeps them, for any such property. Star is one, and the wall another.
-- Assumes nothing.
use Prim.Native.Nat.{ℕ, ◌<◌, ◌≤◌}
use native.Mathlib.Omega.{arith}
use native.Mathlib.Decide.{ℕ_discrete}
use mathlib.Core.Path.{◌≡◌, refl, sym, ap, ◌∙◌, subst}
use mathlib.Core.Logic.{◌≢◌, ⊎_elim}
use mathlib.Core.Bool.{Bool, true}
use mathlib.Core.List.{List}
use lib.ListN.{length, get_or, set}
use lib.Seq.{get_or-set_other}
use Rattle.model.specs.declared.Object.{Object}
use Rattle.model.specs.declared.Monitor.{Monitor}
use Rattle.model.specs.declared.Mode.{Mode}
use Rattle.model.specs.declared.Request.{Request}
use Rattle.model.specs.declared.Request.TheVariants.{Get, Release, Give, Rescind, Create, Delete, ChangeLevel, SetCompanies}
use Rattle.model.specs.Tests.{all_below}
use Rattle.model.specs.Modes.{has, remove}
use Rattle.model.specs.State.{no_object, object_at, object, rights_of, held_by, with_rights, with_held, WellFormed}
use Rattle.model.specs.Rules.{changed, afterwards}
use Rattle.model.proofs.Tests.{set_all, apart, split, below_out, below_in, beyond, le-or-lt}
use Rattle.model.proofs.Modes.{held-add, held-remove, has-none}
use Rattle.model.proofs.After.{objects-after}
use Rattle.invariants.proofs.Form.{no-modes}

-- a set without modes has none
pub none-held : {P : Type 0} (x : Mode) (n : ℕ) → n ≡ 0 → has x n ≡ true → P
none-held x n z e = apart e (ap (has x) z ∙ has-none x)

-- R x p y q: what is asked where a subject holds x on p and y on q; of one subject over all objects
abbrev pub PairsFor : (Mode → Object → Mode → Object → Type 0) → ℕ → List Object → Type 0
PairsFor R s l =
    (p q : ℕ) (x y : Mode) → has x (held_by (object_at l p) s) ≡ true → has y (held_by (object_at l q) s) ≡ true → R x (object_at l p) y (object_at l q)

-- a subject that holds nothing
pub pairs-idle : (R : Mode → Object → Mode → Object → Type 0) (s : ℕ) (l : List Object) → ((o : ℕ) → held_by (object_at l o) s ≡ 0) → PairsFor R s l
pairs-idle R s l z p q x y r w = none-held x _ (z p) r

-- the kinds by which nobody gains an access, and neither the label nor the company numbers of an object on which one is held change
abbrev pub Fewer : Request → Type 0
Fewer (Get s o x) = ⊥
Fewer (Release s o x) = Unit {0}
Fewer (Give s t o x) = Unit {0}
Fewer (Rescind s t o x) = Unit {0}
Fewer (Create s o c) = Unit {0}
Fewer (Delete s o) = Unit {0}
Fewer (ChangeLevel s o l) = ⊥
Fewer (SetCompanies s o n) = ⊥

-- R asks nothing of modes that do not matter, and sees of an object the view alone
module _ {A : Type 0} (matters : Mode → Bool) (view : Object → A) (R : Mode → Object → Mode → Object → Type 0)
    (only : (x y : Mode) (p q : Object) → (matters x ≡ true → matters y ≡ true → R x p y q) → R x p y q)
    (seen : (x y : Mode) (p q r s : Object) → view r ≡ view p → view s ≡ view q → R x p y q → R x r y s)
    (held-unseen : (ob : Object) (s n : ℕ) → view (with_held ob s n) ≡ view ob) (rights-unseen : (ob : Object) (s n : ℕ) → view (with_rights ob s n) ≡ view ob) where
  -- an object on which s holds no more modes that matter than on another that looks the same
  record Less (s : ℕ) (new old : Object) : Type 0 where
    keeps : (x : Mode) → matters x ≡ true → has x (held_by new s) ≡ true → (has x (held_by old s) ≡ true) × (view new ≡ view old)

  -- the same object, and none
  less-same : (s : ℕ) (ob : Object) → Less s ob ob
  less-same s ob = record { keeps = λ x n e. (e, refl) }

  less_none : (s : ℕ) (ob : Object) → Less s no_object ob
  less_none s ob = record { keeps = λ x n e. none-held x _ (no-modes s) e }

  pairs-all-less : (s : ℕ) (l k : List Object) → PairsFor R s l → ((j : ℕ) → Less s (object_at k j) (object_at l j)) → PairsFor R s k
  pairs-all-less s l k h go p q x y r w =
      only x y _ _
      (λ a b.
      let f = (go p).keeps x a r in
      let g = (go q).keeps y b w in
      seen x y _ _ _ _ f.1 g.1 (h p q x y f.0 g.0))

  pairs-less : (s : ℕ) (l : List Object) (o : ℕ) (ob : Object) → PairsFor R s l → Less s ob (object_at l o) → PairsFor R s (set l o ob)
  pairs-less s l o ob h less = pairs-all-less s l (set l o ob) h (set_all (λ j w. Less s w (object_at l j)) l o ob no_object (λ j. less-same s _) less)

  -- an object that has the same accesses and looks the same
  pub pairs-unseen : (s : ℕ) (l : List Object) (o : ℕ) (ob : Object) → PairsFor R s l → ob.held ≡ (object_at l o).held → view ob ≡ view (object_at l o)
      → PairsFor R s (set l o ob)
  pairs-unseen s l o ob h held same =
      pairs-less s l o ob h (record { keeps = λ x n e. (sym (ap (λ (r : List ℕ). has x (get_or r s 0)) held) ∙ e, same) })

  -- an object on which s holds nothing that matters, in the place of any other
  pub pairs-free : (s : ℕ) (l : List Object) (o : ℕ) (ob : Object) → PairsFor R s l
      → ((x : Mode) → matters x ≡ true → has x (held_by ob s) ≡ true → ⊥) → PairsFor R s (set l o ob)
  pairs-free s l o ob h z = pairs-less s l o ob h (record { keeps = λ x n e. absurd (z x n e) })

  -- the held set of s becomes n, which has no more modes that matter
  less-held : (ob : Object) (s n : ℕ) → ((x : Mode) → matters x ≡ true → has x n ≡ true → has x (held_by ob s) ≡ true)
      → (j : ℕ) → Less j (with_held ob s n) ob
  less-held ob s n h j =
      record { keeps = λ x f e. (set_all (λ j k. has x k ≡ true → has x (held_by ob j) ≡ true) ob.held s n 0 (λ j e. e) (h x f) j e, held-unseen ob s n) }

  -- another subject than s sees no change
  less_other : (ob : Object) (s n j : ℕ) → j ≢ s → Less j (with_held ob s n) ob
  less_other ob s n j h = record { keeps = λ x f e. (sym (ap (has x) (get_or-set_other ob.held s j n 0 h)) ∙ e, held-unseen ob s n) }

  -- a get keeps the pairs of every other subject, and those of the actor where the mode does not matter
  pub pairs-get : (s o : ℕ) (x : Mode) (m : Monitor) → WellFormed m → ((j : ℕ) → PairsFor R j m.objects)
      → (matters x ≡ true → PairsFor R s (afterwards (Get s o x) m).objects) → (j : ℕ) → PairsFor R j (afterwards (Get s o x) m).objects
  unfolding changed
  pairs-get s o x m W before there j =
      elim (ℕ_discrete j s) [
        | yes q ↦ split (matters x)
            (λ w. subst (λ (i : ℕ). PairsFor R i (afterwards (Get s o x) m).objects) (sym q) (there w))
            (λ w. pairs-less j m.objects o _ (before j)
            (less-held (object m o) s _ (λ y f r. held-add x y _ ((W.objects_formed o).shape.held_fit s) r (λ p. apart (sym (ap matters p) ∙ f) w) (λ p. p)) j))
        | no h ↦ pairs-less j m.objects o _ (before j) (less_other (object m o) s _ j h)
      ]

  pub pairs-fewer : (q : Request) (m : Monitor) → WellFormed m → ((j : ℕ) → PairsFor R j m.objects) → Fewer q → (j : ℕ) → PairsFor R j (afterwards q m).objects
  unfolding changed
  pairs-fewer (Get s o x) m W before f j = absurd f
  pairs-fewer (Release s o x) m W before f j =
      pairs-less j m.objects o _ (before j) (less-held (object m o) s _ (λ y g r. held-remove x y _ ((W.objects_formed o).shape.held_fit s) r) j)
  pairs-fewer (Give s t o x) m W before f j =
      pairs-less j m.objects o _ (before j) (record { keeps = λ y g r. (r, rights-unseen (object m o) t _) })
  pairs-fewer (Rescind s t o x) m W before f j =
      let new = with_rights (object m o) t (remove x (rights_of (object m o) t)) in
      let less = less-held new t _ (λ y g r. held-remove x y _ ((W.objects_formed o).shape.held_fit t) r) j in
      pairs-less j m.objects o _ (before j)
      (record { keeps = λ y g r. let p = less.keeps y g r in (p.0, p.1 ∙ rights-unseen (object m o) t _) })
  pairs-fewer (Create s o c) m W before f j = pairs-free j m.objects o _ (before j) (λ x n e. none-held x _ (no-modes j) e)
  pairs-fewer (Delete s o) m W before f j =
      pairs-all-less j m.objects (afterwards (Delete s o) m).objects (before j)
      (objects-after (λ i ob. Less j ob (object m i)) (Delete s o) m (λ i. less-same j _) (λ i. less_none j _) (less_none j _))
  pairs-fewer (ChangeLevel s o l) m W before f j = absurd f
  pairs-fewer (SetCompanies s o n) m W before f j = absurd f

-- a test of one subject that decides R, asked of all sixteen: beyond them nobody holds anything
module _ (R : Mode → Object → Mode → Object → Type 0) (test : ℕ → List Object → Bool)
    (out : (s : ℕ) (l : List Object) → test s l ≡ true → PairsFor R s l) (into : (s : ℕ) (l : List Object) → PairsFor R s l → test s l ≡ true) where
  pub pairs-all-out : (l : List Object) → ((o : ℕ) → length (object_at l o).held ≡ 16) → all_below 16 (λ (s : ℕ). test s l) ≡ true → (s : ℕ) → PairsFor R s l
  pairs-all-out l n e s =
      ⊎_elim (λ (w : 16 ≤ s). pairs-idle R s l (λ o. beyond (object_at l o).held s 0 (omega (arith, n o))))
      (λ (w : s < 16). out s l (below_out 16 (λ (i : ℕ). test i l) e s w)) (le-or-lt 16 s)

  pub pairs-all-in : (l : List Object) → ((s : ℕ) → PairsFor R s l) → all_below 16 (λ (s : ℕ). test s l) ≡ true
  pairs-all-in l h = below_in 16 (λ (s : ℕ). test s l) (λ s b. into s l (h s))
