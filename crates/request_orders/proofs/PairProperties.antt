-- Properties of states that are a test of every two accesses of one subject, and what decides a get beside its own checks. Star and the wall
-- together are one.
-- Assumes nothing.
use Prim.Native.Nat.{ℕ}
use mathlib.Core.Path.{◌≡◌}
use mathlib.Core.Logic.{◌↔◌}
use mathlib.Core.Bool.{Bool, true, ◌&&◌}
use mathlib.Core.List.{List}
use Rattle.model.specs.declared.Subject.{Subject}
use Rattle.model.specs.declared.Object.{Object}
use Rattle.model.specs.declared.Monitor.{Monitor}
use Rattle.model.specs.declared.Mode.{Mode}
use Rattle.model.specs.declared.Request.TheVariants.{Get}
use Rattle.model.specs.declared.Decision.TheVariants.{Granted}
use Rattle.model.specs.Tests.{implies}
use Rattle.model.specs.Levels.{dominates, present}
use Rattle.model.specs.Modes.{has, observes, alters, needs_label}
use Rattle.model.specs.Companies.{compatible, confined}
use Rattle.model.specs.State.{clearance_at, enrolled, object, rights_of}
use Rattle.model.specs.Properties.{Star, Wall}
use Rattle.model.specs.Rules.{changed, checks}
use Rattle.model.proofs.Tests.{implies-in, implies-out, and_left, and_right, and_both}
use Rattle.model.proofs.Levels.{dominates-decides}
use Rattle.invariants.specs.Access.{with_access, unheld}
use Rattle.invariants.specs.Sound.{Sound}
use Rattle.invariants.proofs.Granted.{granted-get, grants-get}
use Rattle.model.proofs.Companies.{compatible-decides, confined-decides}
use Rattle.invariants.proofs.Star.{star-in, star-for, star-of, star-get}
use Rattle.invariants.proofs.Wall.{wall-in, wall-for, wall-of, wall-get}
use Rattle.request_orders.specs.StartOrder.{StarAndWall}
use Rattle.request_orders.proofs.Accesses.{Pairs}

-- a property of states that is a test of pairs of accesses, and the gets that it and their own checks decide
pub record PairProperty (Property : Monitor → Type 0) : Type 0 where
  -- the test of two accesses of one subject, and a get's own checks: both see the objects as if nobody held an access
  pub test : Object → Mode → Object → Mode → Bool
  pub own : List Subject → Object → ℕ → Mode → Bool
  pub means : (n : Monitor) → Property n ↔ Pairs test n n
  pub kept : (n : Monitor) → Sound n → Property n
  pub exact : (n : Monitor) → Sound n → (s o : ℕ) (x : Mode)
      → (checks (Get s o x) n ≡ Granted) ↔ ((own n.subjects (unheld (object n o)) s x ≡ true) × Property (with_access n s o x))

-- ---- star and the wall

-- "where one subject holds r or w on P and a or w on Q, the label of Q dominates the label of P"
abbrev pub star_test : Object → Mode → Object → Mode → Bool
star_test p x q y = implies (observes x && alters y) (dominates q.label p.label)

-- "each class has a 0 or equal numbers"; "Where it holds r or w on P and a or w on Q, each nonzero number of P equals that of Q"
abbrev pub wall_test : Object → Mode → Object → Mode → Bool
wall_test p x q y = compatible p.companies q.companies && implies (observes x && alters y) (confined p.companies q.companies)

abbrev pub both_test : Object → Mode → Object → Mode → Bool
both_test p x q y = star_test p x q y && wall_test p x q y

-- checks 3, 4, 6, 7 and 8 of a get
abbrev pub own_checks : List Subject → Object → ℕ → Mode → Bool
own_checks l ob s x =
    present (clearance_at l s) && (ob.live && (has x (rights_of ob s)
    && (implies (needs_label x) (present ob.label) && implies (observes x) (dominates (clearance_at l s) ob.label))))

star-means : (n : Monitor) → Star n ↔ Pairs star_test n n
star-means n = (
  λ T s p q x y a b. implies-in _ _ (λ w. (dominates-decides _ _).1 (T s p q x y a (and_left (observes x) _ w) b (and_right (observes x) _ w))),
  λ T s p q x y a u b v. (dominates-decides _ _).0 (implies-out _ _ (T s p q x y a b) (and_both u v)),
)

wall-means : (n : Monitor) → Wall n ↔ Pairs wall_test n n
wall-means n = (
  λ W s p q x y a b.
      and_both ((compatible-decides _ _).1 (W.compatible s p q x y a b))
      (implies-in _ _ (λ w. (confined-decides _ _).1 (W.confined s p q x y a (and_left (observes x) _ w) b (and_right (observes x) _ w)))),
  λ T.
      record {
        compatible = λ s p q x y a b. (compatible-decides _ _).0 (and_left (compatible (object n p).companies (object n q).companies) _ (T s p q x y a b));
        confined = λ s p q x y a u b v.
            (confined-decides _ _).0
            (implies-out _ _ (and_right (compatible (object n p).companies (object n q).companies) _ (T s p q x y a b)) (and_both u v));
      },
)

both-means : (n : Monitor) → StarAndWall n ↔ Pairs both_test n n
both-means n = (
  λ B s p q x y a b. and_both ((star-means n).0 B.0 s p q x y a b) ((wall-means n).0 B.1 s p q x y a b),
  λ T. (
    (star-means n).1 (λ s p q x y a b. and_left (star_test (object n p) x (object n q) y) _ (T s p q x y a b)),
    (wall-means n).1 (λ s p q x y a b. and_right (star_test (object n p) x (object n q) y) _ (T s p q x y a b)),
  ),
)

both-exact : (n : Monitor) → Sound n → (s o : ℕ) (x : Mode)
    → (checks (Get s o x) n ≡ Granted) ↔ ((own_checks n.subjects (unheld (object n o)) s x ≡ true) × StarAndWall (with_access n s o x))
unfolding changed
both-exact n S s o x = (
  λ e.
      let g = granted-get n s o x e in (
        and_both g.there (and_both g.live (and_both g.right (and_both g.labelled g.simple))),
        (
          star-of (with_access n s o x) (star-get s o x n S.formed S.secure.star g.star),
          wall-of (with_access n s o x) (wall-get s o x n S.formed S.secure.wall g.wall),
        ),
      ),
  λ h.
      let a = h.0 in
      let b = and_right (enrolled n s) _ a in
      let c = and_right (object n o).live _ b in
      let d = and_right (has x (rights_of (object n o) s)) _ c in
      grants-get n s o x
      (record {
        there = and_left (enrolled n s) _ a;
        live = and_left (object n o).live _ b;
        right = and_left (has x (rights_of (object n o) s)) _ c;
        labelled = and_left (implies (needs_label x) (present (object n o).label)) _ d;
        simple = and_right (implies (needs_label x) (present (object n o).label)) _ d;
        star = implies-in _ _ (λ w. star-in s _ (star-for (with_access n s o x) h.1.0 s));
        wall = wall-in s _ (wall-for (with_access n s o x) h.1.1 s);
      }),
)

pub both-pairs : PairProperty StarAndWall
both-pairs =
    record { test = both_test; own = own_checks; means = both-means; kept = λ n S. (S.secure.star, S.secure.wall); exact = both-exact }
