-- The search over parents (change request §11): where the same subjects are enrolled and the same objects are live with the same owners, a deletion and a
-- creation tell two states apart in which an object has another parent.
-- Assumes nothing.
use Prim.Native.Nat.{ℕ, zero, suc, ◌<◌, ◌≤◌}
use native.Mathlib.Omega.{arith}
use mathlib.Core.Path.{◌≡◌, refl, sym, ap, ◌∙◌, subst}
use mathlib.Core.Logic.{◌≢◌, ◌↔◌, inr, ⊎_elim}
use mathlib.Core.Bool.{Bool, true, false, cond, not, ◌&&◌}
use mathlib.Core.List.{List, [], ◌∷◌}
use lib.ListN.{length}
use lib.Dec.{eqb}
use borrow.Author.Tests.{eqb-true, eq-eqb}
use Rattle.model.specs.declared.Object.{Object}
use Rattle.model.specs.declared.Profile.{Profile}
use Rattle.model.specs.declared.Monitor.{Monitor}
use Rattle.model.specs.declared.Request.{Request}
use Rattle.model.specs.declared.Request.TheVariants.{Create, Delete}
use Rattle.model.specs.declared.Decision.TheVariants.{Granted, NotEnrolled, AlreadyLive}
use Rattle.model.specs.State.{enrolled, object}
use Rattle.model.specs.Hierarchy.{parent_at, Meets, here, Below, below, parent_live}
use Rattle.model.specs.Requests.{creation}
use Rattle.model.specs.Rules.{afterwards, checks}
use Rattle.model.proofs.Tests.{split, cond-all, pass, stop, distinct}
use Rattle.model.proofs.Tests as tests
use Rattle.model.proofs.Hierarchy.{live-in, meets-decides}
use Rattle.model.proofs.Chains.{below-below, meets-first, meets-none, not-below-itself}
use Rattle.telling.specs.Distinguish.{differ, or_else, by_below, to_parent, by_parent}
use Rattle.invariants.proofs.Granted.{grants-create}
use Rattle.invariants.proofs.Hierarchy.{parent_is, Goes, goes, goes-or-stays}
use Rattle.equal_images.specs.Inputs.{Formed, AllFormed}
use Rattle.equal_images.proofs.Under.{Under, object-in, under-afterwards}
use Rattle.equal_images.proofs.Probes.{Differs, differs-sym, differs-first, Probe, alike, apart, probe-map, probe-or}
use Rattle.equal_images.proofs.Objects.{tells-refusal, delete-granted, delete-formed, after-granted}

module _ (p : Profile) (m : Monitor) (S : Under p m) where
  short : length m.objects ≤ 64
  short = omega (arith, S.sound.formed.objects-length)

  live_below : (o : ℕ) → (object m o).live ≡ true → o < 64
  live_below o e = live-in m.objects short o e

  -- the test of what is below
  below-decides : (x y : ℕ) → x < 64 → (below m.objects x y ≡ true) ↔ Below m.objects x y
  below-decides x y h = meets-decides m.objects short x h (parent_at m.objects y)

  -- who has a parent is live, and so is the parent
  child-live : (o q : ℕ) → (object m o).parent ≡ suc q → (object m o).live ≡ true
  child-live o q e =
      split (object m o).live (λ l. l)
      (λ l. absurd (omega (arith, sym (ap (λ (ob : Object). ob.parent) ((S.sound.formed.objects_formed o).shape.not_live l)) ∙ e)))

  parent_is_live : (o q : ℕ) → (object m o).parent ≡ suc q → (object m q).live ≡ true
  parent_is_live o q e = S.sound.hierarchy.parents_live o q e

  -- an object is below its parent
  below-parent : (o q : ℕ) → (object m o).parent ≡ suc q → below m.objects q o ≡ true
  below-parent o q e =
      (below-decides q o (live_below q (parent_is_live o q e))).1
      (subst (Meets m.objects q) (sym (parent_is m S.sound.formed o ∙ e)) here)

-- ---- object y is below object x in one of two states and not in the other

module _ (p : Profile) (m n : Monitor) (S : Under p m) (N : Under p n) (same : (s : ℕ) → s < 16 → enrolled m s ≡ enrolled n s)
    (alive : (o : ℕ) → o < 64 → (object m o).live ≡ (object n o).live) (owned : (o : ℕ) → o < 64 → (object m o).owner ≡ (object n o).owner) where
  module _ (x y : ℕ) (x-live : (object m x).live ≡ true) (y-live : (object m y).live ≡ true) where
    owner : ℕ
    owner = (object m x).owner

    deletes : Request
    deletes = Delete owner x

    creates : Request
    creates = Create owner y (creation false 0)

    x_below : x < 64
    x_below = live_below p m S x x-live

    y-below : y < 64
    y-below = live_below p m S y y-live

    deletes-formed : Formed p deletes
    unfolding deletes owner
    deletes-formed = delete-formed p m S x x_below x-live

    creates-formed : Formed p creates
    unfolding creates owner
    creates-formed =
        let f = delete-formed p m S x x_below x-live in
        ((f.0.0, y-below, omega arith), (f.1.0, object-in p m S y y-live, omega arith))

    in-m : checks deletes m ≡ Granted
    unfolding deletes owner
    in-m = delete-granted m S.sound x x-live

    in-n : checks deletes n ≡ Granted
    unfolding deletes owner
    in-n = subst (λ (w : ℕ). checks (Delete w x) n ≡ Granted) (sym (owned x x_below)) (delete-granted n N.sound x (sym (alive x x_below) ∙ x-live))

    owner-there : enrolled m owner ≡ true
    unfolding owner
    owner-there = (S.sound.formed.objects_formed x).owner_enrolled x-live

    owner-there-too : enrolled n owner ≡ true
    unfolding owner
    owner-there-too = sym (same owner (S.sound.formed.objects_formed x).shape.owner_fits) ∙ owner-there

    -- below in m: it went with x, and is created again; not below in n: it is live there still
    went : below m.objects x y ≡ true → checks creates (afterwards deletes m) ≡ Granted
    unfolding deletes creates owner parent_live
    went b =
        let gone = goes owner x m S.sound.formed x_below y (inr ((below-decides p m S x y x_below).0 b)) in
        grants-create (afterwards deletes m) owner y (creation false 0)
        (record { there = owner-there; free = ap (λ (ob : Object). not ob.live) gone; parent = refl })

    stayed : below m.objects x y ≡ true → below n.objects x y ≡ false → checks creates (afterwards deletes n) ≡ AlreadyLive
    unfolding deletes creates owner checks
    stayed b c =
        ⊎_elim
        (λ (g : Goes n x y). ⊎_elim
        (λ (e : y ≡ x). absurd (not-below-itself m.objects x (S.sound.hierarchy.chains_end x)
        (subst (Below m.objects x) e ((below-decides p m S x y x_below).0 b))))
        (λ (w : Below n.objects x y). tests.apart ((below-decides p n N x y x_below).1 w) c) g)
        (λ r. pass _ NotEnrolled _ owner-there-too
        ∙ stop _ AlreadyLive _ (ap (λ (ob : Object). not ob.live) r.1 ∙ ap not (sym (alive y y-below) ∙ y-live)))
        (goes-or-stays owner x n N.sound.formed x_below y)

    tells-below : below m.objects x y ≡ true → below n.objects x y ≡ false → Differs (deletes ∷ creates ∷ []) m n
    tells-below b c =
        let before = under-afterwards p m S deletes deletes-formed in-m in
        let behind = under-afterwards p n N deletes deletes-formed in-n in
        after-granted p deletes (creates ∷ []) m n S N deletes-formed in-m in-n
        (differs-first p (afterwards deletes m) (afterwards deletes n) before.profile behind.profile creates [] creates-formed
        (tells-refusal creates (afterwards deletes m) (afterwards deletes n) AlreadyLive refl (stayed b c) (λ e. distinct _ _ refl (sym (went b) ∙ e))))

-- ---- the search at one object

module _ (p : Profile) (m n : Monitor) (S : Under p m) (N : Under p n) (same : (s : ℕ) → s < 16 → enrolled m s ≡ enrolled n s)
    (alive : (o : ℕ) → o < 64 → (object m o).live ≡ (object n o).live) (owned : (o : ℕ) → o < 64 → (object m o).owner ≡ (object n o).owner) where
  -- the list for x and y, where both are live
  probe-below : (x y : ℕ) → (object m x).live ≡ true → (object m y).live ≡ true → Probe p m n (by_below m n x y) (below m.objects x y ≡ below n.objects x y)
  unfolding by_below deletes creates owner
  probe-below x y u v =
      subst (λ (l : Bool). Probe p m n (cond (l && differ (below m.objects x y) (below n.objects x y)) tellers []) (below m.objects x y ≡ below n.objects x y)) (sym u)
      (go (below m.objects x y) (below n.objects x y) refl refl)
    where
      x-in : x < 64
      x-in = live_below p m S x u

      y-in : y < 64
      y-in = live_below p m S y v

      tellers : List Request
      tellers = Delete (object m x).owner x ∷ Create (object m x).owner y (creation false 0) ∷ []

      formed : (deletes p m n S N same alive owned x y u v ≡ Delete (object m x).owner x) → AllFormed p tellers
      formed e = (deletes-formed p m n S N same alive owned x y u v, (creates-formed p m n S N same alive owned x y u v, tt))

      go : (a b : Bool) → below m.objects x y ≡ a → below n.objects x y ≡ b → Probe p m n (cond (differ a b) tellers []) (a ≡ b)
      go true true e f = alike refl refl
      go true false e f = apart (formed refl) (omega arith) (tells-below p m n S N same alive owned x y u v e f)
      go false true e f =
          apart (formed refl) (omega arith)
          (subst (λ (w : ℕ). Differs (Delete w x ∷ Create w y (creation false 0) ∷ []) m n) (sym (owned x x-in))
          (differs-sym _ n m
          (tells-below p n m N S (λ s h. sym (same s h)) (λ o h. sym (alive o h)) (λ o h. sym (owned o h)) x y (sym (alive x x-in) ∙ u) (sym (alive y y-in) ∙ v) f e)))
      go false false e f = alike refl refl

  module _ (o : ℕ) (o-below : o < 64) where
    -- what is live in n is live in m
    back : (j : ℕ) → (object n j).live ≡ true → (object m j).live ≡ true
    back j e = alive j (live_below p n N j e) ∙ e

    -- with no parent nothing is above it
    none_above : (k : Monitor) → Under p k → (object k o).parent ≡ 0 → (q : ℕ) → q < 64 → below k.objects q o ≡ true → ⊥
    none_above k U e q h b = meets-none k.objects q _ ((below-decides p k U q o h).0 b) (parent_is k U.sound.formed o ∙ e)

    -- with another parent than q, q is above the parent
    above_parent : (k : Monitor) → Under p k → (r q : ℕ) → (object k o).parent ≡ suc r → q ≢ r → q < 64 → below k.objects q o ≡ true → Below k.objects q r
    above_parent k U r q e d h b =
        ⊎_elim (λ (w : q ≡ r). absurd (d w)) (λ w. w)
        (meets-first k.objects q _ ((below-decides p k U q o h).0 b) r (parent_is k U.sound.formed o ∙ e))

    -- a and b are its parents in the two states, and nothing tells them apart
    parents-agree : (a b : ℕ) → (object m o).parent ≡ suc a → (object n o).parent ≡ suc b → a ≢ b
        → below m.objects a o ≡ below n.objects a o → below m.objects b o ≡ below n.objects b o → below m.objects b a ≡ below n.objects b a → ⊥
    parents-agree a b e f d one two three =
        let a_in = live_below p m S a (parent_is_live p m S o a e) in
        let b-in = live_below p n N b (parent_is_live p n N o b f) in
        let ab = above_parent n N b a f d a_in (sym one ∙ below-parent p m S o a e) in
        let ba = above_parent m S a b e (λ w. d (sym w)) b-in (two ∙ below-parent p n N o b f) in
        let too = (below-decides p n N b a b-in).0 (sym three ∙ (below-decides p m S b a b-in).1 ba) in
        not-below-itself n.objects b (N.sound.hierarchy.chains_end b) (below-below n.objects b a b too ab)

    parent-probe : (a b : ℕ) → (object m o).parent ≡ a → (object n o).parent ≡ b → Probe p m n (to_parent m n o a b) (a ≡ b)
    unfolding to_parent
    parent-probe zero zero e f = alike refl refl
    parent-probe zero (suc b) e f =
        let l = parent_is_live p n N o b f in
        probe-map p m n (by_below m n b o) (λ w. absurd (none_above m S e b (live_below p n N b l) (w ∙ below-parent p n N o b f)))
        (probe-below b o (back b l) (back o (child-live p n N o b f)))
    parent-probe (suc a) zero e f =
        let l = parent_is_live p m S o a e in
        probe-map p m n (by_below m n a o) (λ w. absurd (none_above n N f a (live_below p m S a l) (sym w ∙ below-parent p m S o a e)))
        (probe-below a o l (child-live p m S o a e))
    parent-probe (suc a) (suc b) e f =
        let o-live = child-live p m S o a e in
        let a-live = parent_is_live p m S o a e in
        let b-live = back b (parent_is_live p n N o b f) in
        cond-all (λ (qs : List Request). Probe p m n qs (suc a ≡ suc b)) (eqb a b) [] (or_else (by_below m n a o) (or_else (by_below m n b o) (by_below m n b a)))
        (λ w. alike refl (ap suc (eqb-true a b w)))
        (λ w. probe-map p m n _ (λ t. absurd (parents-agree a b e f (λ z. tests.apart (eq-eqb a b z) w) t.0 t.1.0 t.1.1))
        (probe-or p m n (by_below m n a o) _ (probe-below a o a-live o-live)
        (λ one. probe-or p m n (by_below m n b o) (by_below m n b a) (probe-below b o b-live o-live) (λ two. probe-below b a b-live a-live))))

    pub probe-parent : Probe p m n (by_parent m n o) ((object m o).parent ≡ (object n o).parent)
    unfolding by_parent
    probe-parent = parent-probe (object m o).parent (object n o).parent refl refl
