-- The tests of one get and of two gets decide what change requests §6 and §10 say of them, on every reached monitor.
-- Assumes nothing.
use Prim.Native.Nat.{ℕ, ◌<◌}
use native.Mathlib.Omega.{arith}
use mathlib.Core.Path.{◌≡◌, refl, sym, ap, ap₂, ◌∙◌}
use mathlib.Core.Logic.{◌↔◌}
use mathlib.Core.Bool.{Bool, true, not, ◌&&◌}
use mathlib.Core.List.{List}
use lib.Dec.{eqb}
use borrow.Author.Tests.{eqb-true, eq-eqb, leb-false, lt-leb}
use Rattle.model.specs.declared.Profile.{Profile}
use Rattle.model.specs.declared.Monitor.{Monitor}
use Rattle.model.specs.declared.Mode.{Mode}
use Rattle.model.specs.declared.Request.TheVariants.{Get}
use Rattle.std.specs.Prelude.{Some, None, is_some}
use Rattle.model.specs.declared.Response.{Response}
use Rattle.model.specs.State.{object}
use Rattle.model.specs.Companies.{WallAsks, wall_kept}
use Rattle.model.specs.ModePairs.{entry, Kept, kept}
use Rattle.model.specs.Decisions.{number, refuses}
use Rattle.model.specs.Requests.{decode}
use Rattle.model.specs.Rules.{step}
use Rattle.model.specs.Runs.{reply}
use Rattle.model.specs.Beginnings.{Reached}
use Rattle.model.proofs.Tests.{split, clash, apart, and_left, and_right, and_both, not_on}
use Rattle.model.proofs.Requests.{decode-range}
use Rattle.model.proofs.ModePairs.{kept-decides}
use Rattle.model.proofs.Companies.{wall-kept-decides}
use Rattle.invariants.specs.Access.{with_access}
use Rattle.images.proofs.Reached.{sound-reached, respond-says}
use Rattle.request_orders.specs.StartOrder.{IsGet, StarAndWall, Clash}
use Rattle.request_orders.proofs.Commuting.{says-granted}
use Rattle.request_orders.proofs.TwoGets.{together-by-pair}
use Rattle.start_order.specs.Answers.{Wanted, access, wanted_by, wanted, alone, breaks, clashes}
use Rattle.start_order.proofs.Trying.{wanted-says}

-- ---- one get

-- what a get asks for
pub wanted-get : (k : Profile) (b : List ℕ) (s o : ℕ) (x : Mode) → decode k b ≡ Some (Get s o x) → wanted k b ≡ access s o x
unfolding wanted
wanted-get k b s o x e = ap wanted_by e

-- bytes that ask for an access say a get, and no others do
access-in : (k : Profile) (b : List ℕ) (w : Wanted) → wanted k b ≡ w → is_some w ≡ true → IsGet k b
access-in k b (Some a) e t = (a.subject, a.object, a.mode, wanted-says k b a.subject a.object a.mode e)
access-in k b None e t = clash (sym t)

pub access-get : (k : Profile) (b : List ℕ) → (is_some (wanted k b) ≡ true) ↔ IsGet k b
access-get k b = (access-in k b (wanted k b) refl, λ g. ap (λ (w : Wanted). is_some w) (wanted-get k b g.0 g.1 g.2 g.3))

-- the test of a get that came alone is its reply, 0 or 1
alone-reply : (m : Monitor) (b : List ℕ) (s o : ℕ) (x : Mode) → decode m.profile b ≡ Some (Get s o x) → (alone m (wanted m.profile b) ≡ true) ↔ (reply b m < 2)
unfolding alone
alone-reply m b s o x e =
    let asked : alone m (wanted m.profile b) ≡ not (refuses (step (Get s o x) m).decision) = ap (alone m) (wanted-get m.profile b s o x e) in
    let said : reply b m ≡ number (step (Get s o x) m).decision = ap (λ (r : Response). number r.decision) (respond-says b (Get s o x) m e) in (
      λ t. let h : number (step (Get s o x) m).decision < 2 = leb-false 2 _ (not_on _ (sym asked ∙ t)) in omega arith,
      λ h. let k : number (step (Get s o x) m).decision < 2 = omega (arith, h, said) in asked ∙ ap not (lt-leb 2 _ k),
    )

alone-access : (m : Monitor) (w : Wanted) → alone m w ≡ true → is_some w ≡ true
unfolding alone
alone-access m (Some a) t = refl
alone-access m None t = clash (sym t)

-- "granted if it came alone": of bytes that say a get and are replied 0 or 1, and of no others
pub alone-exactly : (m : Monitor) (b : List ℕ) → (alone m (wanted m.profile b) ≡ true) ↔ (IsGet m.profile b × (reply b m < 2))
alone-exactly m b = (
  λ t. let g = (access-get m.profile b).0 (alone-access m (wanted m.profile b) t) in (g, (alone-reply m b g.0 g.1 g.2 g.3).0 t),
  λ h. (alone-reply m b h.0.0 h.0.1 h.0.2 h.0.3).1 h.1,
)

-- ---- two gets

-- only two accesses break anything
pub breaks-accesses : (m : Monitor) (v w : Wanted) → breaks m v w ≡ true → (is_some v ≡ true) × (is_some w ≡ true)
unfolding breaks
breaks-accesses m None w e = clash (sym e)
breaks-accesses m (Some v) None e = clash (sym e)
breaks-accesses m (Some v) (Some w) e = (refl, refl)

-- the test of two accesses
breaks-at : (m : Monitor) (b c : List ℕ) (s p : ℕ) (x : Mode) (t q : ℕ) (y : Mode) → decode m.profile b ≡ Some (Get s p x) → decode m.profile c ≡ Some (Get t q y)
    → breaks m (wanted m.profile b) (wanted m.profile c) ≡ (eqb s t && not (kept (entry x y) (object m p).label (object m q).label && wall_kept x y (object m p).companies (object m q).companies))
unfolding breaks
breaks-at m b c s p x t q y d e = ap₂ (breaks m) (wanted-get m.profile b s p x d) (wanted-get m.profile c t q y e)

module _ (m : Monitor) (R : Reached m) (b c : List ℕ) (s p : ℕ) (x : Mode) (t q : ℕ) (y : Mode) (d : decode m.profile b ≡ Some (Get s p x))
    (e : decode m.profile c ≡ Some (Get t q y)) (g : reply b m < 2) (h : reply c m < 2) where
  -- what is asked of the two objects, as a test and as it is said
  asked : Bool
  asked = kept (entry x y) (object m p).label (object m q).label && wall_kept x y (object m p).companies (object m q).companies

  asked-decides : (asked ≡ true) ↔ (Kept (entry x y) (object m p).label (object m q).label × WallAsks x y (object m p).companies (object m q).companies)
  unfolding asked
  asked-decides =
      let labels = kept-decides (entry x y) (object m p).label (object m q).label in
      let numbers = wall-kept-decides x y (object m p).companies (object m q).companies in (
        λ w. (labels.0 (and_left (kept (entry x y) (object m p).label (object m q).label) _ w), numbers.0 (and_right (kept (entry x y) (object m p).label (object m q).label) _ w)),
        λ h. and_both (labels.1 h.0) (numbers.1 h.1),
      )

  -- "would together break star or wall": the table of mode pairs and the rules of the wall say it
  breaks-either : (breaks m (wanted m.profile b) (wanted m.profile c) ≡ true) ↔ (StarAndWall (with_access (with_access m s p x) t q y) → ⊥)
  unfolding asked
  breaks-either =
      let pair = together-by-pair m (sound-reached m R) s p x t q y (decode-range m.profile b _ d) (decode-range m.profile c _ e) ((says-granted b _ m d).0 g) ((says-granted c _ m e).0 h) in
      let test = breaks-at m b c s p x t q y d e in (
        λ k T.
            let both = sym test ∙ k in
            let same = eqb-true s t (and_left (eqb s t) _ both) in
            apart (asked-decides.1 (pair.0 T same)) (not_on _ (and_right (eqb s t) _ both)),
        λ n. split (breaks m (wanted m.profile b) (wanted m.profile c)) (λ k. k)
            (λ k. absurd (n (pair.1 (λ same. asked-decides.0
            (split asked (λ w. w) (λ w. apart (test ∙ and_both (eq-eqb s t same) (ap not w)) k)))))),
      )

-- the test of two byte strings is that they are gets that clash
pub clashes-exactly : (m : Monitor) → Reached m → (b c : List ℕ) → (clashes m b c ≡ true) ↔ Clash StarAndWall m b c
unfolding clashes
clashes-exactly m R b c = (
  λ k.
      let later = and_right (alone m (wanted m.profile b)) _ k in
      let first = (alone-exactly m b).0 (and_left (alone m (wanted m.profile b)) _ k) in
      let second = (alone-exactly m c).0 (and_left (alone m (wanted m.profile c)) _ later) in
      let v = first.0 in
      let w = second.0 in
      record {
        s = v.0;
        p = v.1;
        x = v.2;
        t = w.0;
        q = w.1;
        y = w.2;
        first = v.3;
        second = w.3;
        first_alone = first.1;
        second_alone = second.1;
        together = (breaks-either m R b c _ _ _ _ _ _ v.3 w.3 first.1 second.1).0 (and_right (alone m (wanted m.profile c)) _ later);
      },
  λ K. and_both ((alone-exactly m b).1 ((K.s, K.p, K.x, K.first), K.first_alone))
      (and_both ((alone-exactly m c).1 ((K.t, K.q, K.y, K.second), K.second_alone))
      ((breaks-either m R b c _ _ _ _ _ _ K.first K.second K.first_alone K.second_alone).1 K.together)),
)
