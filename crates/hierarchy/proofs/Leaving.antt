-- What is left while object o and everything below it is deleted, child by child: at each turn a part of what goes is gone, and an object that is
-- left under one that is gone is a later child of o.
-- Assumes nothing.
use Prim.Native.Nat.{ℕ, zero, suc, ◌+◌, ◌≤◌, ◌<◌}
use native.Mathlib.Omega.{arith}
use mathlib.Core.Path.{◌≡◌, refl, sym, ap, ◌∙◌, subst}
use mathlib.Core.Logic.{◌⊎◌, inl, inr, ⊎_elim, ◌≢◌}
use mathlib.Core.Bool.{Bool, true, false, cond}
use lib.ListN.{length}
use lib.Dec.{eqb}
use borrow.Author.Tests.{eqb-true, eq-eqb}
use Rattle.model.specs.declared.Object.{Object}
use Rattle.model.specs.State.{no_object, object_at}
use Rattle.model.specs.Hierarchy.{parent_at, Meets, here, further, Below}
use Rattle.model.proofs.Tests.{split, apart, and_both, and_left, and_right, le-or-lt, cond-true}
use Rattle.model.proofs.Hierarchy.{live-in}
use Rattle.unit.specs.Rows.{Rows, row_count, row_at, objects_in}
use Rattle.unit.specs.Stored.{set_object}
use Rattle.unit.proofs.Tabulated.{same_or_not}
use Rattle.unit.proofs.Stores.{object-length}
use Rattle.hierarchy.specs.Removed.{child_of, gone, removed}
use Rattle.hierarchy.proofs.Upward.{objects-length, none-beyond}
use Rattle.hierarchy.proofs.Meeting.{meets-none, meets-before, meets-parent, parent-of-live, Goes, gone-out, gone-in, live_count, live-fewer}
use Rattle.hierarchy.proofs.Rowed.{trio, cleared, same_object, cleared-object, clear_self, clear-other, clear_behind, removed-length, removed-behind, removed-gone, removed-kept, is_removed}

abbrev live_in : Rows → ℕ → Bool
live_in u y = (object_at (objects_in u) y).live

abbrev parent_of : Rows → ℕ → ℕ
parent_of u y = parent_at (objects_in u) y

-- rows w, from rows u, after the children of o below c
pub record Leaves (u : Rows) (o : ℕ) (w : Rows) (c : ℕ) : Type 0 where
  pub whole : length w ≡ row_count
  pub behind : (i : ℕ) → 192 ≤ i → i < row_count → row_at w i ≡ row_at u i
  -- each object is as it was, or it is one that goes, and gone
  pub each : (y : ℕ) → y < 64 → (trio w y ≡ trio u y) ⊎ ((trio w y ≡ cleared) × Goes (objects_in u) o y)
  pub self : trio w o ≡ cleared
  -- what is left has its parent still, unless that is o and its turn has not come
  pub closed : (y x : ℕ) → parent_of w y ≡ suc x → live_in u x ≡ true → (live_in w x ≡ true) ⊎ ((x ≡ o) × (c ≤ y))

live_below : (u : Rows) (y : ℕ) → live_in u y ≡ true → y < 64
live_below u y e = live-in (objects_in u) (omega (arith, objects-length u)) y e

same-parent : (u w : Rows) (y : ℕ) → object_at (objects_in w) y ≡ object_at (objects_in u) y → parent_of w y ≡ parent_of u y
same-parent u w y e = ap (λ (ob : Object). cond ob.live ob.parent 0) e

no-parent : (w : Rows) (y : ℕ) → object_at (objects_in w) y ≡ no_object → parent_of w y ≡ 0
no-parent w y e = ap (λ (ob : Object). cond ob.live ob.parent 0) e

not_live : {A : Type 0} (w : Rows) (y : ℕ) → object_at (objects_in w) y ≡ no_object → live_in w y ≡ true → A
not_live w y e t = apart t (ap (λ (ob : Object). ob.live) e)

-- ---- object o has been cleared

pub leaves-start : (u : Rows) (o : ℕ) → length u ≡ row_count → o < 64 → Leaves u o (set_object u o no_object) 0
leaves-start u o n h =
    let w = set_object u o no_object in
    record {
      whole = object-length u o no_object n h;
      behind = λ i a b. clear_behind u o n h i a;
      each = λ y b.
          ⊎_elim (λ (e : y ≡ o). inr (ap (trio w) e ∙ clear_self u o n h, inl e)) (λ (e : y ≢ o). inl (clear-other u o n h y b e)) (same_or_not y o);
      self = clear_self u o n h;
      closed = λ y x e t.
          ⊎_elim (λ (z : x ≡ o). inr (z, omega arith))
          (λ (z : x ≢ o). let b = live_below u x t in inl (ap (λ (ob : Object). ob.live) (same_object u w x b (clear-other u o n h x b z)) ∙ t)) (same_or_not x o);
    }

-- ---- on every turn

module _ (u : Rows) (o : ℕ) (v : Rows) (c : ℕ) (F : Leaves u o v c) where
  -- an object that is live was live, with all its record
  left-same : (y : ℕ) → live_in v y ≡ true → object_at (objects_in v) y ≡ object_at (objects_in u) y
  left-same y t =
      let b = live_below v y t in
      ⊎_elim (λ e. same_object u v y b e) (λ g. not_live v y (cleared-object v y b g.0) t) (F.each y b)

  left-parent : (y : ℕ) → (parent_of v y ≡ 0) ⊎ (parent_of v y ≡ parent_of u y)
  left-parent y =
      ⊎_elim (λ (a : 64 ≤ y). inl (no-parent v y (none-beyond v y a)))
      (λ (b : y < 64). ⊎_elim (λ e. inr (same-parent u v y (same_object u v y b e))) (λ g. inl (no-parent v y (cleared-object v y b g.0))) (F.each y b))
      (le-or-lt 64 y)

  had-parent : (y x : ℕ) → parent_of v y ≡ suc x → parent_of u y ≡ suc x
  had-parent y x e = ⊎_elim (λ z. absurd (omega (arith, z, e))) (λ z. sym z ∙ e) (left-parent y)

  pub leaves-fewer : o < 64 → live_in u o ≡ true → live_count (objects_in v) < live_count (objects_in u)
  leaves-fewer h t =
      live-fewer (objects_in u) (objects_in v) (objects-length u ∙ sym (objects-length v)) (λ j w. sym (ap (λ (ob : Object). ob.live) (left-same j w)) ∙ w)
      o t (ap (λ (ob : Object). ob.live) (cleared-object v o h F.self))

  -- object c is no child of o
  pub leaves-past : child_of (object_at (objects_in v) c) o ≡ false → Leaves u o v (c + 1)
  leaves-past n =
      record {
        whole = F.whole;
        behind = F.behind;
        each = F.each;
        self = F.self;
        closed = λ y x e t. ⊎_elim inl (λ g. inr (g.0, later y x e g.0 g.1)) (F.closed y x e t);
      }
    where
      later : (y x : ℕ) → parent_of v y ≡ suc x → x ≡ o → c ≤ y → c + 1 ≤ y
      later y x e z b =
          ⊎_elim (λ (w : y ≡ c). apart (child y x e z w) n) (λ (w : y ≢ c). ⊎_elim (λ (k : c + 1 ≤ y). k) (λ (k : y < c + 1). absurd (w (omega arith))) (le-or-lt (c + 1) y)) (same_or_not y c)
        where
          child : (y x : ℕ) → parent_of v y ≡ suc x → x ≡ o → y ≡ c → child_of (object_at (objects_in v) c) o ≡ true
          child y x e z w =
              let ob = object_at (objects_in v) y in
              let t = parent-of-live (objects_in v) y x e in
              let p : ob.parent ≡ suc o = sym (cond-true ob.live ob.parent 0 t) ∙ e ∙ ap suc z in
              subst (λ (k : ℕ). child_of (object_at (objects_in v) k) o ≡ true) w (and_both t (eq-eqb ob.parent (suc o) p))

-- ---- object c is a child of o, and goes with everything below it

module _ (u : Rows) (o : ℕ) (v : Rows) (c : ℕ) (F : Leaves u o v c) (h : o < 64) (b : c < 64) (child : child_of (object_at (objects_in v) c) o ≡ true) where
  under : parent_of v c ≡ suc o
  under =
      let ob = object_at (objects_in v) c in
      let t = and_left ob.live (eqb ob.parent (suc o)) child in
      cond-true ob.live ob.parent 0 t ∙ eqb-true ob.parent (suc o) (and_right ob.live (eqb ob.parent (suc o)) child)

  -- what goes with the child goes with o
  goes-too : (y : ℕ) → Goes (objects_in v) c y → Goes (objects_in u) o y
  goes-too y g =
      let was = had-parent u o v c F c o under in
      ⊎_elim
      (λ (e : y ≡ c). inr (subst (λ (k : ℕ). Below (objects_in u) o k) (sym e) (subst (Meets (objects_in u) o) (sym was) here)))
      (λ (k : Below (objects_in v) c y).
      let met = meets-parent (objects_in u) o c was (parent_of v y) (meets-before (objects_in u) (objects_in v) c (left-parent u o v c F) (parent_of v y) k) in
      ⊎_elim (λ e. meets-none (objects_in v) c (parent_of v y) k e) (λ e. inr (subst (Meets (objects_in u) o) e met)) (left-parent u o v c F y)) g

  -- what stands under something that goes goes too
  goes-under : (y x : ℕ) → parent_of v y ≡ suc x → Goes (objects_in v) c x → Goes (objects_in v) c y
  goes-under y x e g =
      inr (subst (Meets (objects_in v) c) (sym e) (⊎_elim (λ (z : x ≡ c). subst (λ (k : ℕ). Meets (objects_in v) c (suc k)) (sym z) here) (λ k. further x k) g))

  pub leaves-more : Leaves u o (removed v c) (c + 1)
  leaves-more =
      record {
        whole = removed-length v c ∙ F.whole;
        behind = λ i p q. removed-behind v c F.whole i p q ∙ F.behind i p q;
        each = λ y p.
            split (gone (objects_in v) c y) (λ g. inr (removed-gone v c F.whole y p g, goes-too y (out y g)))
            (λ g. let k = removed-kept v c F.whole y p g in ⊎_elim (λ e. inl (k ∙ e)) (λ e. inr (k ∙ e.0, e.1)) (F.each y p));
        self = split (gone (objects_in v) c o) (λ g. removed-gone v c F.whole o h g) (λ g. removed-kept v c F.whole o h g ∙ F.self);
        closed = still;
      }
    where
      out : (y : ℕ) → gone (objects_in v) c y ≡ true → Goes (objects_in v) c y
      out = gone-out (objects_in v) (objects-length v) c b

      back : (y : ℕ) → Goes (objects_in v) c y → gone (objects_in v) c y ≡ true
      back = gone-in (objects_in v) (objects-length v) c b

      -- an object that is left: it did not go with the child
      stays : (y : ℕ) → live_in (removed v c) y ≡ true → gone (objects_in v) c y ≡ false
      stays y t =
          let p = live_below (removed v c) y t in
          split (gone (objects_in v) c y) (λ g. not_live (removed v c) y (cleared-object (removed v c) y p (removed-gone v c F.whole y p g)) t) (λ g. g)

      same : (y : ℕ) → y < 64 → gone (objects_in v) c y ≡ false → object_at (objects_in (removed v c)) y ≡ object_at (objects_in v) y
      same y p g = same_object v (removed v c) y p (removed-kept v c F.whole y p g)

      still : (y x : ℕ) → parent_of (removed v c) y ≡ suc x → live_in u x ≡ true → (live_in (removed v c) x ≡ true) ⊎ ((x ≡ o) × (c + 1 ≤ y))
      still y x e t =
          let lives = parent-of-live (objects_in (removed v c)) y x e in
          let g = stays y lives in
          let k : parent_of v y ≡ suc x = sym (same-parent v (removed v c) y (same y (live_below (removed v c) y lives) g)) ∙ e in
          ⊎_elim
          (λ (r : live_in v x ≡ true). inl (split (gone (objects_in v) c x)
          (λ z. apart (back y (goes-under y x k (out x z))) g)
          (λ z. ap (λ (ob : Object). ob.live) (same x (live_below v x r) z) ∙ r)))
          (λ r. inr (
            r.0,
            ⊎_elim (λ (q : y ≡ c). apart (back y (inl q)) g)
                (λ (q : y ≢ c). ⊎_elim (λ (d : c + 1 ≤ y). d) (λ (d : y < c + 1). absurd (q (omega (arith, r.1)))) (le-or-lt (c + 1) y)) (same_or_not y c),
          ))
          (F.closed y x k t)

-- ---- every turn has been

module _ (u : Rows) (o : ℕ) (n : length u ≡ row_count) (h : o < 64) (t : live_in u o ≡ true) (v : Rows) (F : Leaves u o v 64) where
  Gone : ℕ → Type 0
  Gone x = (live_in u x ≡ true) × (live_in v x ≡ false)

  -- what stood under something that is gone is gone
  gone-under : (y q : ℕ) → parent_of u y ≡ suc q → Gone q → Gone y
  unfolding Gone
  gone-under y q r above = (parent-of-live (objects_in u) y q r, split (live_in v y) left (λ s. s))
    where
      left : live_in v y ≡ true → live_in v y ≡ false
      left s =
          ⊎_elim (λ w. apart w above.1) (λ w. absurd (omega (arith, w.1, live_below v y s)))
          (F.closed y q (same-parent u v y (left-same u o v 64 F y s) ∙ r) above.0)

  -- all on the way from something that goes up to o was live, and is gone
  gone-above : (p : ℕ) → Meets (objects_in u) o p → (x : ℕ) → p ≡ suc x → Gone x
  unfolding Gone
  gone-above p here x e =
      let z : o ≡ x = omega (arith, e) in
      subst Gone z (t, ap (λ (ob : Object). ob.live) (cleared-object v o h F.self))
  gone-above p (further y k) x e =
      let z : y ≡ x = omega (arith, e) in
      subst Gone z (first (parent_of u y) refl (λ j r. gone-above (parent_of u y) k j r))
    where
      first : (q : ℕ) → parent_of u y ≡ q → ((j : ℕ) → parent_of u y ≡ suc j → Gone j) → Gone y
      first zero r f = meets-none (objects_in u) o (parent_of u y) k r
      first (suc q) r f = gone-under y q r (f q r)

  pub leaves-end : v ≡ removed u o
  unfolding Gone
  leaves-end = is_removed u o n v F.whole (λ y b. ⊎_elim (λ e. kept y b e) (λ e. e.0 ∙ sym (removed-gone u o n y b (gone-in (objects_in u) (objects-length u) o h y e.1))) (F.each y b)) F.behind
    where
      kept : (y : ℕ) → y < 64 → trio v y ≡ trio u y → trio v y ≡ trio (removed u o) y
      kept y b e =
          split (gone (objects_in u) o y)
          (λ g. ⊎_elim (λ (z : y ≡ o). ap (trio v) z ∙ F.self ∙ sym (removed-gone u o n y b g))
          (λ (k : Below (objects_in u) o y).
          let above = gone-above (suc y) (further y k) y refl in
          apart (ap (λ (ob : Object). ob.live) (same_object u v y b e) ∙ above.0) above.1)
          (gone-out (objects_in u) (objects-length u) o h y g))
          (λ g. e ∙ sym (removed-kept u o n y b g))
