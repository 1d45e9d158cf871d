-- A get by an enrolled subject on a live object is refused exactly when the state with that access added breaks one of the four properties or the wall.
-- Assumes nothing.
use Prim.Native.Nat.{ℕ, zero, suc, ◌<◌, ◌≤◌}
use native.Mathlib.Omega.{arith}
use mathlib.Core.Path.{◌≡◌, sym, ap, ◌∙◌}
use mathlib.Core.Logic.{◌↔◌}
use mathlib.Core.Bool.{true}
use mathlib.Core.List.{List, [], ◌∷◌}
use lib.ListN.{length}
use Rattle.model.specs.declared.Object.{Object}
use Rattle.model.specs.declared.Monitor.{Monitor}
use Rattle.model.specs.declared.Mode.{Mode}
use Rattle.model.specs.declared.Request.TheVariants.{Get}
use Rattle.model.specs.declared.Decision.TheVariants.{Granted}
use Rattle.model.specs.Levels.{present}
use Rattle.model.specs.Modes.{has}
use Rattle.model.specs.State.{enrolled, object_at, object, rights_of}
use Rattle.model.specs.Properties.{Secure}
use Rattle.model.specs.Decisions.{number}
use Rattle.model.specs.Rules.{changed, checks, step}
use Rattle.model.proofs.Tests.{implies-in, clash}
use Rattle.invariants.specs.Access.{with_access}
use Rattle.invariants.proofs.Form.{enrolled-below}
use Rattle.invariants.proofs.Star.{star-in, star-for}
use Rattle.invariants.proofs.Wall.{wall-in, wall-for}
use Rattle.invariants.specs.Sound.{Sound}
use Rattle.invariants.proofs.Granted.{grants-get}
use Rattle.invariants.proofs.Steps.{sound-afterwards}
use Rattle.invariants.proofs.Outcomes.{reply-granted}
use Rattle.invariants.proofs.Added.{there-now, holds-now, simple-get-out}

-- a live object is one of the monitor's objects
pub live_below : (l : List Object) (o : ℕ) → (object_at l o).live ≡ true → o < length l
live_below [] o e = clash (sym e)
live_below (x ∷ xs) zero e = omega arith
live_below (x ∷ xs) (suc o) e = let h : o < length xs = live_below xs o e in omega arith

module _ (m : Monitor) (S : Sound m) (s o : ℕ) (x : Mode) (s-below : s < 16) (o-below : o < 64) where
  -- where the state with the access added is secure, every check passes
  secure-granted : enrolled m s ≡ true → (object m o).live ≡ true → Secure (with_access m s o x) → checks (Get s o x) m ≡ Granted
  unfolding changed
  secure-granted there live T =
      let now = there-now m S s o x s-below o-below in
      let held = holds-now m S s o x s-below o-below in
      grants-get m s o x
      (record {
        there = there;
        live = live;
        right = sym (ap (λ (b : Object). has x (rights_of b s)) now) ∙ T.discretionary s o x held;
        labelled = implies-in _ _ (λ n. sym (ap (λ (b : Object). present b.label) now) ∙ T.labelled s o x held n);
        simple = simple-get-out m S s o x s-below o-below T.simple;
        star = implies-in _ _ (λ n. star-in s _ (star-for (with_access m s o x) T.star s));
        wall = wall-in s _ (wall-for (with_access m s o x) T.wall s);
      })

module _ (m : Monitor) (S : Sound m) (s o : ℕ) (x : Mode) (there : enrolled m s ≡ true) (live : (object m o).live ≡ true) where
  s-below : s < 16
  s-below = omega (arith, S.formed.subjects_length, enrolled-below m.subjects s there)

  o-below : o < 64
  o-below = omega (arith, S.formed.objects-length, live_below m.objects o live)

  pub granted-secure : (checks (Get s o x) m ≡ Granted) ↔ Secure (with_access m s o x)
  unfolding changed
  granted-secure = (λ g. (sound-afterwards (Get s o x) m (s-below, o-below) (S.inside.subjects_inside s there, S.inside.objects_inside o live) S g).secure, secure-granted m S s o x s-below o-below there live)

  pub get-refused-exactly : (2 ≤ number (step (Get s o x) m).decision) ↔ (Secure (with_access m s o x) → ⊥)
  get-refused-exactly =
      let g = reply-granted (Get s o x) m in (
        λ h T. absurd (omega (arith, h, g.1 (granted-secure.1 T))),
        λ n. refused (number (step (Get s o x) m).decision) (λ h. n (granted-secure.0 (g.0 h))),
      )
    where
      refused : (k : ℕ) → (k < 2 → ⊥) → 2 ≤ k
      refused zero h = absurd (h (omega arith))
      refused (suc zero) h = absurd (h (omega arith))
      refused (suc (suc k)) h = omega arith
