-- Every request, of any bytes, leaves a sound state sound: well formed, inside its profile, secure, and with parents that are live, chains of them
-- that end and labels that rise. The profile stays the same.
-- Assumes nothing.
use Prim.Native.Nat.{ℕ}
use mathlib.Core.Path.{◌≡◌, refl, sym, ap, ◌∙◌, subst}
use mathlib.Core.Logic.{⊎_elim}
use mathlib.Core.Bool.{true, cond}
use mathlib.Core.List.{List, [], ◌∷◌}
use Rattle.model.specs.declared.Monitor.{Monitor}
use Rattle.model.specs.declared.Request.{Request}
use Rattle.model.specs.Requests.{Decoded, decode, InRange, Within}
use Rattle.std.specs.Prelude.{Some, None}
use Rattle.model.specs.declared.Decision.TheVariants.{Granted, Already}
use Rattle.model.specs.declared.Response.{Response}
use Rattle.model.specs.State.{no_object, object_at, object, WellFormedObject}
use Rattle.model.specs.Profiles.{Inside}
use Rattle.model.specs.Properties.{Secure}
use Rattle.model.specs.Decisions.{refuses}
use Rattle.model.specs.Rules.{target, already, afterwards, check_list, checks, answer, step}
use Rattle.model.specs.Runs.{carry_out, respond, after}
use Rattle.model.proofs.Tests.{cond-true, cond-false}
use Rattle.model.proofs.Requests.{decode-range, decode-within}
use Rattle.model.proofs.After.{objects-after, length-after}
use Rattle.model.proofs.Checks.{granted-or-refusal}
use Rattle.invariants.specs.Sound.{Sound}
use Rattle.invariants.proofs.Granted.{only-refusals}
use Rattle.invariants.proofs.Form.{no-modes, no-object-formed, changed-formed}
use Rattle.invariants.proofs.Inside.{inside-afterwards}
use Rattle.invariants.proofs.Secure.{SecureObject, object-secure, idle-secure, changed-secure}
use Rattle.invariants.proofs.Star.{StarFor, star-of, changed-star}
use Rattle.invariants.proofs.Hierarchy.{changed-hierarchy}
use Rattle.invariants.proofs.Wall.{WallFor, wall-of, changed-wall}

-- ---- the two cases of a step

-- every request is granted or refused
pub granted-or-refused : {P : Type 0} (q : Request) (m : Monitor) → (checks q m ≡ Granted → P) → (refuses (checks q m) ≡ true → P) → P
unfolding checks
granted-or-refused q m f g = ⊎_elim f g (granted-or-refusal (check_list q m) (only-refusals q m))

-- the answer of a granted one, and of a refused one
pub step-granted : (q : Request) (m : Monitor) → checks q m ≡ Granted
    → step q m ≡ record { decision = cond (already q (object m (target q))) Already Granted; monitor = afterwards q m }
unfolding step answer
step-granted q m e = cond-false (refuses (checks q m)) _ _ (ap refuses e)

pub step-refused : (q : Request) (m : Monitor) → refuses (checks q m) ≡ true → step q m ≡ record { decision = checks q m; monitor = m }
unfolding step answer
step-refused q m e = cond-true (refuses (checks q m)) _ _ e

-- what holds of the state before, and after a granted request, holds of the state left
pub step-all : (P : Monitor → Type 0) (q : Request) (m : Monitor) → P m → (checks q m ≡ Granted → P (afterwards q m)) → P (step q m).monitor
step-all P q m p f =
    granted-or-refused q m
    (λ e. subst (λ (r : Response). P r.monitor) (sym (step-granted q m e)) (f e))
    (λ e. subst (λ (r : Response). P r.monitor) (sym (step-refused q m e)) p)

-- ---- soundness is kept

pub secure-of : (m : Monitor) → ((o : ℕ) → SecureObject m.subjects (object m o)) → ((s : ℕ) → StarFor s m.objects)
    → ((s : ℕ) → WallFor s m.objects) → Secure m
secure-of m h t w =
    record {
      discretionary = λ s o. (h o).discretionary s;
      labelled = λ s o. (h o).labelled s;
      simple = λ s o. (h o).simple s;
      star = star-of m t;
      wall = wall-of m w;
    }

pub sound-afterwards : (q : Request) (m : Monitor) → InRange q → Within m.profile q → Sound m → checks q m ≡ Granted → Sound (afterwards q m)
sound-afterwards q m r v S e =
    let W = S.formed in
    let F : (o : ℕ) → WellFormedObject m.subjects (object_at (afterwards q m).objects o) =
    objects-after (λ j ob. WellFormedObject m.subjects ob) q m W.objects_formed (λ j. no-object-formed m.subjects) (changed-formed m q r W e) in
    record {
      formed = record {
        subjects_length = W.subjects_length;
        clearances_fit = W.clearances_fit;
        objects-length = length-after q m ∙ W.objects-length;
        objects_formed = F;
      };
      inside = inside-afterwards q m v S.inside;
      secure = secure-of (afterwards q m)
          (objects-after (λ j ob. SecureObject m.subjects ob) q m (object-secure m S.secure) (λ j. idle-secure m.subjects no_object no-modes) (changed-secure m W S.secure q e))
          (changed-star q m W S.secure (λ o. (F o).shape.held_length) e)
          (changed-wall q m W S.secure (λ o. (F o).shape.held_length) e);
      hierarchy = changed-hierarchy q m W S.hierarchy r e;
    }

pub sound-step : (q : Request) (m : Monitor) → InRange q → Within m.profile q → Sound m → Sound (step q m).monitor
sound-step q m r v S = step-all Sound q m S (sound-afterwards q m r v S)

-- the request that bytes say, or none
pub respond-all : (P : Response → Type 0) (b : List ℕ) (m : Monitor)
    → (decode m.profile b ≡ None → P (carry_out None m)) → ((q : Request) → decode m.profile b ≡ Some q → P (step q m)) → P (respond b m)
unfolding respond
respond-all P b m f g = go (decode m.profile b) f g
  where
    go : (d : Decoded) → (d ≡ None → P (carry_out None m)) → ((q : Request) → d ≡ Some q → P (step q m)) → P (carry_out d m)
    go None f g = f refl
    go (Some q) f g = g q refl

pub sound-respond : (b : List ℕ) (m : Monitor) → Sound m → Sound (respond b m).monitor
sound-respond b m S =
    respond-all (λ (r : Response). Sound r.monitor) b m (λ e. S) (λ q e. sound-step q m (decode-range m.profile b q e) (decode-within m.profile b q e) S)

pub sound-after : (bs : List (List ℕ)) (m : Monitor) → Sound m → Sound (after bs m)
unfolding after
sound-after [] m S = S
sound-after (b ∷ bs) m S = sound-after bs (respond b m).monitor (sound-respond b m S)

-- ---- the profile is kept: by a request, by a byte string, by a list of them

pub step-profile : (q : Request) (m : Monitor) → (step q m).monitor.profile ≡ m.profile
step-profile q m = step-all (λ n. n.profile ≡ m.profile) q m refl (λ e. refl)

pub respond-profile : (b : List ℕ) (m : Monitor) → (respond b m).monitor.profile ≡ m.profile
respond-profile b m = respond-all (λ (r : Response). r.monitor.profile ≡ m.profile) b m (λ e. refl) (λ q e. step-profile q m)

pub profile-kept : (bs : List (List ℕ)) (m : Monitor) → (after bs m).profile ≡ m.profile
unfolding after
profile-kept [] m = refl
profile-kept (b ∷ bs) m = profile-kept bs (respond b m).monitor ∙ respond-profile b m

-- ---- "A subject, object, class or need outside it in a request is malformed": what is inside stays inside, well formed or not

pub inside-step : (q : Request) (m : Monitor) → Within m.profile q → Inside m → Inside (step q m).monitor
inside-step q m v I = step-all Inside q m I (λ e. inside-afterwards q m v I)

pub inside-respond : (b : List ℕ) (m : Monitor) → Inside m → Inside (respond b m).monitor
inside-respond b m I =
    respond-all (λ (r : Response). Inside r.monitor) b m (λ e. I) (λ q e. inside-step q m (decode-within m.profile b q e) I)

pub inside-after : (bs : List (List ℕ)) (m : Monitor) → Inside m → Inside (after bs m)
unfolding after
inside-after [] m I = I
inside-after (b ∷ bs) m I = inside-after bs (respond b m).monitor (inside-respond b m I)
