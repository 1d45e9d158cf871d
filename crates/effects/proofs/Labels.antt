-- No lowering (change request §3), over lists of requests: while an object lives, its label dominates every earlier one.
-- Assumes nothing.
use Prim.Native.Nat.{ℕ, zero, suc, ◌+◌, ◌-◌, ◌≤◌}
use native.Mathlib.Omega.{arith}
use mathlib.Core.Path.{◌≡◌, sym, ap, ◌∙◌, subst}
use mathlib.Core.Logic.{◌≢◌, ◌⊎◌, inl, inr}
use mathlib.Core.Bool.{Bool, true, false, cond}
use mathlib.Core.List.{List}
use lib.ListN.{take}
use Rattle.model.specs.declared.Level.{Level}
use Rattle.model.specs.Levels.{Label, Dominates, same_label}
use Rattle.std.specs.Prelude.{Some, None}
use Rattle.model.specs.declared.Subject.{Subject}
use Rattle.model.specs.declared.Object.{Object}
use Rattle.model.specs.declared.Monitor.{Monitor}
use Rattle.model.specs.declared.Mode.{Mode}
use Rattle.model.specs.declared.Request.{Request}
use Rattle.model.specs.declared.Request.TheVariants.{Get, Release, Give, Rescind, Create, Delete, ChangeLevel, SetCompanies}
use Rattle.model.specs.declared.Decision.TheVariants.{Granted, Already}
use Rattle.model.specs.declared.Response.{Response}
use Rattle.model.specs.Modes.{observes}
use Rattle.model.specs.State.{clearance, clearance_at, object}
use Rattle.model.specs.Properties.{Holds}
use Rattle.model.specs.Decisions.{number}
use Rattle.model.specs.Requests.{decode}
use Rattle.model.specs.Rules.{target, changed, already, checks, step}
use Rattle.model.specs.Runs.{respond, reply, after}
use Rattle.model.specs.Beginnings.{Reached}
use Rattle.model.proofs.Tests.{apart, clash}
use Rattle.model.proofs.Lists.{after_next}
use Rattle.model.proofs.Levels.{dominates-refl, dominates-there, dominates-trans, label_same}
use Rattle.model.proofs.Lowering.{not-lowered-decides}
use Rattle.invariants.proofs.Granted.{granted-change}
use Rattle.invariants.proofs.Relabelling.{same-label-granted, first-label-granted}
use Rattle.invariants.proofs.Steps.{step-granted, respond-all}
use Rattle.images.proofs.Reached.{reached-after, sound-reached, respond-says}
use Rattle.effects.proofs.Frames.{frame, create-finds, subjects-kept-after}
use Rattle.effects.proofs.Lives.{DeletesWith, live-kept}

-- a label, where there is one, is dominated by the later one
Rises : Label → Label → Type 0
Rises old new = old ≢ None → Dominates new old

-- ---- one request

-- what a granted request makes of the label of a live object that stays live
changed-rises : (q : Request) (m : Monitor) → (object m (target q)).live ≡ true → checks q m ≡ Granted → (changed q (object m (target q))).live ≡ true
    → Rises (object m (target q)).label (changed q (object m (target q))).label
unfolding changed Rises
changed-rises (Get s o x) m live g e = dominates-refl (object m o).label
changed-rises (Release s o x) m live g e = dominates-refl (object m o).label
changed-rises (Give s t o x) m live g e = dominates-refl (object m o).label
changed-rises (Rescind s t o x) m live g e = dominates-refl (object m o).label
changed-rises (Create s o c) m live g e = apart live (create-finds s o c m g)
changed-rises (Delete s o) m live g e = clash (sym e)
changed-rises (ChangeLevel s o l) m live g e = (not-lowered-decides _ _).0 (granted-change m s o l g).raised
changed-rises (SetCompanies s o n) m live g e = dominates-refl (object m o).label

step-rises : (q : Request) (m : Monitor) (o : ℕ) → (object m o).live ≡ true → (object (step q m).monitor o).live ≡ true
    → Rises (object m o).label (object (step q m).monitor o).label
unfolding Rises
step-rises q m o live =
    frame (λ (ob : Object). ob.live ≡ true → Rises (object m o).label ob.label) q m o (λ e. dominates-refl (object m o).label)
    (λ g e h. subst (λ (k : ℕ). Rises (object m k).label (changed q (object m (target q))).label) e
    (changed-rises q m (subst (λ (k : ℕ). (object m k).live ≡ true) (sym e) live) g h))
    (λ t l. clash (sym l))

respond-rises : (g : List ℕ) (m : Monitor) (o : ℕ) → (object m o).live ≡ true → (object (respond g m).monitor o).live ≡ true
    → Rises (object m o).label (object (respond g m).monitor o).label
unfolding Rises
respond-rises g m o live =
    respond-all (λ (r : Response). (object r.monitor o).live ≡ true → Rises (object m o).label (object r.monitor o).label) g m
    (λ e h. dominates-refl (object m o).label) (λ q e. step-rises q m o live)

-- whatever the bytes and the monitor: the label of a live object is dominated by the next one, or the bytes say a delete of the object or of one
-- that it is below
pub label-ends-by-delete : (m : Monitor) (g : List ℕ) (o : ℕ) → (object m o).live ≡ true → (object m o).label ≢ None
    → Dominates (object (respond g m).monitor o).label (object m o).label ⊎ DeletesWith g m o
unfolding Rises
label-ends-by-delete m g o live there = kept (live-kept m g o live)
  where
    kept : ((object (respond g m).monitor o).live ≡ true) ⊎ DeletesWith g m o
        → Dominates (object (respond g m).monitor o).label (object m o).label ⊎ DeletesWith g m o
    kept (inl stays) = inl (respond-rises g m o live stays there)
    kept (inr ended) = inr ended

-- ---- what is never refused

module _ (m : Monitor) (R : Reached m) (g : List ℕ) (o : ℕ) (l : Level) (says : decode m.profile g ≡ Some (ChangeLevel (object m o).owner o l))
    (live : (object m o).live ≡ true) where
  -- the reply to the owner's change of level, where it is granted
  owner-reply : (was : Bool) → checks (ChangeLevel (object m o).owner o l) m ≡ Granted → same_label (object m o).label (Some l) ≡ was
      → reply g m ≡ number (cond was Already Granted)
  unfolding already
  owner-reply was e is =
      ap (λ (r : Response). number r.decision) (respond-says g _ m says ∙ step-granted _ m e) ∙ ap (λ (b : Bool). number (cond b Already Granted)) is

  -- "the same label still replies 1"
  pub same-label-replies-1 : (object m o).label ≡ Some l → reply g m ≡ 1
  same-label-replies-1 e = owner-reply true (same-label-granted m (sound-reached m R) o l live e) (label_same _ _ e)

  -- "a first label is free", under a parent where it dominates that of the parent (change request §11)
  pub first-label-replies-0 : (object m o).label ≡ None → ((p : ℕ) → (object m o).parent ≡ suc p → Dominates (Some l) (object m p).label) → reply g m ≡ 0
  unfolding same_label
  first-label-replies-0 e fits = owner-reply false (first-label-granted m (sound-reached m R) o l live e fits) (ap (λ (k : Label). same_label k (Some l)) e)

-- ---- lists of requests

module _ (m : Monitor) (gs : List (List ℕ)) (o i : ℕ) where
  -- the label after k requests
  label_after : ℕ → Label
  label_after k = (object (after (take k gs) m) o).label

  -- "live after every prefix" from i requests on to j
  LiveTo : ℕ → Type 0
  LiveTo j = (k : ℕ) → i ≤ k → k ≤ j → (object (after (take k gs) m) o).live ≡ true

  rises_by : (d j : ℕ) → d + i ≡ j → LiveTo j → Rises (label_after i) (label_after j)
  unfolding LiveTo label_after Rises
  rises_by zero j e live there =
      let same : i ≡ j = omega (arith, e) in
      subst (λ (k : ℕ). Dominates (label_after k) (label_after i)) same (dominates-refl (label_after i) there)
  rises_by (suc d) zero e live there = absurd (omega (arith, e))
  rises_by (suc d) (suc j) e live there =
      let here : Dominates (label_after j) (label_after i) = rises_by d j (omega (arith, e)) (λ k a b. live k a (omega (arith, b))) there in
      after_next (λ (n : Monitor). (object n o).live ≡ true → Dominates (object n o).label (label_after i)) gs m j (λ l. here)
      (λ g stays. dominates-trans _ (label_after j) (label_after i)
      (respond-rises g (after (take j gs) m) o (live j (omega (arith, e)) (omega arith)) stays (dominates-there _ _ here)) here)
      (live (suc j) (omega (arith, e)) (omega arith))

-- over every list and from every monitor: of an object that is live after each prefix from i requests to j, the label after j dominates that after i
pub label-never-falls : (m : Monitor) (gs : List (List ℕ)) (o i j : ℕ) → i ≤ j
    → ((k : ℕ) → i ≤ k → k ≤ j → (object (after (take k gs) m) o).live ≡ true)
    → (object (after (take i gs) m) o).label ≢ None
    → Dominates (object (after (take j gs) m) o).label (object (after (take i gs) m) o).label
unfolding LiveTo label_after Rises
label-never-falls m gs o i j h live there = rises_by m gs o i (j - i) j (omega (arith, h)) live there

-- so it is never published: who reads the object after j requests, by r or w, has a clearance that dominates the label after i
pub never-published : (m : Monitor) → Reached m → (gs : List (List ℕ)) (o i j : ℕ) → i ≤ j
    → ((k : ℕ) → i ≤ k → k ≤ j → (object (after (take k gs) m) o).live ≡ true)
    → (object (after (take i gs) m) o).label ≢ None
    → (s : ℕ) (x : Mode) → Holds (after (take j gs) m) s o x → observes x ≡ true → Dominates (clearance m s) (object (after (take i gs) m) o).label
never-published m R gs o i j h live there s x held reads =
    let simple = (sound-reached _ (reached-after m R (take j gs))).secure.simple s o x held reads in
    dominates-trans (clearance m s) _ _
    (subst (λ (l : List Subject). Dominates (clearance_at l s) (object (after (take j gs) m) o).label) (subjects-kept-after (take j gs) m) simple)
    (label-never-falls m gs o i j h live there)
