-- Two gets that are each granted alone: whether they would together break star or the wall is said by the table of mode pairs and by the two rules
-- of the wall; and the second of them is then refused after the first.
-- Assumes nothing.
use Prim.Native.Nat.{ℕ, ◌<◌}
use mathlib.Core.Path.{◌≡◌, refl, sym, ap, ◌∙◌, subst, subst₂}
use mathlib.Core.Logic.{◌↔◌, ◌≢◌, ◌⊎◌, inl, inr}
use mathlib.Core.Bool.{Bool, true}
use Rattle.model.specs.Levels.{Label, dominates, present}
use Rattle.std.specs.Prelude.{None}
use Rattle.model.specs.declared.Object.{Object}
use Rattle.model.specs.declared.Monitor.{Monitor}
use Rattle.model.specs.declared.Mode.{Mode}
use Rattle.model.specs.declared.Request.TheVariants.{Get}
use Rattle.model.specs.declared.Decision.TheVariants.{Granted, NotEnrolled, NotLive, NoRight, NoLabel, SimpleBroken, StarBroken, WallBroken}
use Rattle.model.specs.Tests.{implies, unless}
use Rattle.model.specs.Modes.{has, observes, needs_label}
use Rattle.model.specs.Companies.{WallAsks}
use Rattle.model.specs.State.{clearance, object, rights_of}
use Rattle.model.specs.Properties.{Star, Wall, Holds}
use Rattle.model.specs.ModePairs.{entry, Kept}
use Rattle.model.specs.Rules.{star_for, wall_for, changed, checks}
use Rattle.model.proofs.Tests.{split, clash, implies-in, implies-out, pass, stop}
use Rattle.invariants.specs.Access.{with_access, unheld}
use Rattle.invariants.specs.Sound.{Sound}
use Rattle.invariants.proofs.Granted.{granted-get}
use Rattle.invariants.proofs.Star.{star-in, star-for, star-of, star-get}
use Rattle.invariants.proofs.Wall.{wall-in, wall-for, wall-of, wall-get}
use Rattle.invariants.proofs.Inside.{get-within}
use Rattle.invariants.proofs.Steps.{sound-afterwards}
use Rattle.invariants.proofs.Added.{same-unheld, held-now, holds-now}
use Rattle.invariants.proofs.ModePairs.{star-added}
use Rattle.invariants.proofs.WallAdded.{wall-added}
use Rattle.request_orders.specs.StartOrder.{StarAndWall}

-- a get that is granted has a label to ask of, where its mode needs one
labelled : (m : Monitor) (s o : ℕ) (x : Mode) → checks (Get s o x) m ≡ Granted → needs_label x ≡ true → (object m o).label ≢ None
labelled m s o x g n e = clash (sym (implies-out _ _ (granted-get m s o x g).labelled n) ∙ ap present e)

module _ (m : Monitor) (S : Sound m) (s p : ℕ) (x : Mode) (t q : ℕ) (y : Mode)
    (first_range : (s < 16) × (p < 64)) (second_range : (t < 16) × (q < 64))
    (first : checks (Get s p x) m ≡ Granted) (second : checks (Get t q y) m ≡ Granted) where
  one : Monitor
  one = with_access m s p x

  sound-one : Sound one
  unfolding changed one
  sound-one = sound-afterwards (Get s p x) m first_range (get-within m S.inside s p x first) S first

  label_same : (r : ℕ) → (object one r).label ≡ (object m r).label
  unfolding one
  label_same r = ap (λ (ob : Object). ob.label) (same-unheld m s p x r)

  companies-same : (r : ℕ) → (object one r).companies ≡ (object m r).companies
  unfolding one
  companies-same r = ap (λ (ob : Object). ob.companies) (same-unheld m s p x r)

  -- the state that the second get alone leaves
  sound-other : Sound (with_access m t q y)
  unfolding changed
  sound-other = sound-afterwards (Get t q y) m second_range (get-within m S.inside t q y second) S second

  -- what is asked of each access that the second subject holds at the start, and of the first access where both are of one subject, is asked of
  -- each that it holds then
  after_first : (Asks : Mode → ℕ → Type 0) → ((r : ℕ) (h : Mode) → Holds m t r h → Asks h r) → ((s ≡ t) → Asks x p) → (r : ℕ) (h : Mode) → Holds one t r h → Asks h r
  unfolding one
  after_first Asks beside K r h a =
      held-now m S.formed s p x (λ u r h. u ≡ t → Asks h r) K (λ u r h b e. beside r h (subst (λ (i : ℕ). Holds m i r h) e b)) t r h a refl

  first-held : (s ≡ t) → Holds one t p x
  unfolding one
  first-held e = subst (λ (i : ℕ). Holds one i p x) e (holds-now m S s p x first_range.0 first_range.1)

  star-together : Star (with_access (with_access m s p x) t q y) ↔ ((s ≡ t) → Kept (entry x y) (object m p).label (object m q).label)
  unfolding one
  star-together =
      let there : needs_label y ≡ true → (object one q).label ≢ None = λ n e. labelled m t q y second n (sym (label_same q) ∙ e) in
      let by-held = star-added one sound-one t q y second_range.0 second_range.1 there in
      let beside = (star-added m S t q y second_range.0 second_range.1 (labelled m t q y second)).0 sound-other.secure.star in (
        λ T e. subst₂ (λ (k l : Label). Kept (entry x y) k l) (label_same p) (label_same q) (by-held.0 T p x (first-held e)),
        λ K. by-held.1 (λ r h a. subst₂ (λ (k l : Label). Kept (entry h y) k l) (sym (label_same r)) (sym (label_same q))
            (after_first (λ h r. Kept (entry h y) (object m r).label (object m q).label) beside K r h a)),
      )

  wall-together : Wall (with_access (with_access m s p x) t q y) ↔ ((s ≡ t) → WallAsks x y (object m p).companies (object m q).companies)
  unfolding one
  wall-together =
      let by-held = wall-added one sound-one t q y second_range.0 second_range.1 in
      let beside = (wall-added m S t q y second_range.0 second_range.1).0 sound-other.secure.wall in (
        λ T e. subst₂ (λ (k l : ℕ). WallAsks x y k l) (companies-same p) (companies-same q) (by-held.0 T p x (first-held e)),
        λ K. by-held.1 (λ r h a. subst₂ (λ (k l : ℕ). WallAsks h y k l) (sym (companies-same r)) (sym (companies-same q))
            (after_first (λ h r. WallAsks h y (object m r).companies (object m q).companies) beside K r h a)),
      )

  -- both are kept exactly where, for two gets of one subject, the labels keep what the table of mode pairs asks and the numbers what the wall does
  pub together-by-pair : StarAndWall (with_access (with_access m s p x) t q y)
      ↔ ((s ≡ t) → Kept (entry x y) (object m p).label (object m q).label × WallAsks x y (object m p).companies (object m q).companies)
  together-by-pair = (
    λ T e. (star-together.0 T.0 e, wall-together.0 T.1 e),
    λ K. (star-together.1 (λ e. (K e).0), wall-together.1 (λ e. (K e).1)),
  )

  -- ---- the second get in the state that the first leaves

  -- whether star and the wall are kept there, as the checks ask it
  star-kept : Bool
  unfolding one
  star-kept = implies (needs_label y) (star_for t (with_access one t q y).objects)

  wall-kept : Bool
  unfolding one
  wall-kept = wall_for t (with_access one t q y).objects

  -- the checks before them look at nothing that the first get changes
  only-last : checks (Get t q y) one ≡ unless star-kept StarBroken (unless wall-kept WallBroken Granted)
  unfolding checks changed one star-kept wall-kept
  only-last =
      let g = granted-get m t q y second in
      let same : (f : Object → Bool) → f (unheld (object one q)) ≡ f (unheld (object m q)) = λ f. ap f (same-unheld m s p x q) in
      pass _ NotEnrolled _ g.there ∙ pass _ NotLive _ (same (λ ob. ob.live) ∙ g.live) ∙ pass _ NoRight _ (same (λ ob. has y (rights_of ob t)) ∙ g.right)
      ∙ pass _ NoLabel _ (same (λ ob. implies (needs_label y) (present ob.label)) ∙ g.labelled)
      ∙ pass _ SimpleBroken _ (same (λ ob. implies (observes y) (dominates (clearance m t) ob.label)) ∙ g.simple)

  star-kept-out : star-kept ≡ true → Star (with_access one t q y)
  unfolding one star-kept changed
  star-kept-out e = star-of (with_access one t q y) (star-get t q y one sound-one.formed sound-one.secure.star e)

  wall-kept-out : wall-kept ≡ true → Wall (with_access one t q y)
  unfolding one wall-kept changed
  wall-kept-out e = wall-of (with_access one t q y) (wall-get t q y one sound-one.formed sound-one.secure.wall e)

  pub granted-after-first : StarAndWall (with_access (with_access m s p x) t q y) → checks (Get t q y) (with_access m s p x) ≡ Granted
  unfolding one star-kept wall-kept
  granted-after-first T =
      only-last ∙ pass _ StarBroken _ (implies-in _ _ (λ n. star-in t _ (star-for (with_access one t q y) T.0 t)))
      ∙ pass _ WallBroken Granted (wall-in t _ (wall-for (with_access one t q y) T.1 t))

  -- 9 where star breaks, else 18
  pub refused-after-first : (StarAndWall (with_access (with_access m s p x) t q y) → ⊥)
      → (checks (Get t q y) (with_access m s p x) ≡ StarBroken) ⊎ (checks (Get t q y) (with_access m s p x) ≡ WallBroken)
  unfolding one
  refused-after-first n =
      split star-kept
      (λ e. split wall-kept (λ f. absurd (n (star-kept-out e, wall-kept-out f)))
      (λ f. inr (only-last ∙ pass _ StarBroken _ e ∙ stop _ WallBroken Granted f)))
      (λ e. inl (only-last ∙ stop _ StarBroken _ e))
