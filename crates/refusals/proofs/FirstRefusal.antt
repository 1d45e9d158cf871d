-- The first refusal in the scope's order, as numbers: of byte strings on a reached monitor, of tables and of images.
-- Assumes nothing.
use Prim.Native.Nat.{ℕ, ◌<◌, ◌≤◌}
use native.Mathlib.Omega.{arith}
use mathlib.Core.Path.{◌≡◌, refl, sym, ap, ◌∙◌, subst}
use mathlib.Core.Logic.{◌↔◌, ◌≢◌}
use mathlib.Core.Bool.{true}
use mathlib.Core.List.{List}
use borrow.Author.Tests.{leb-true}
use Rattle.model.specs.declared.Profile.{Profile}
use Rattle.model.specs.declared.Monitor.{Monitor}
use Rattle.model.specs.declared.Request.{Request}
use Rattle.model.specs.declared.Request.TheVariants.{Get, Release, Give, Rescind, Create, Delete, ChangeLevel, SetCompanies}
use Rattle.model.specs.Requests.{Decoded, decode}
use Rattle.std.specs.Prelude.{Some, None}
use Rattle.model.specs.declared.Decision.{Decision}
use Rattle.model.specs.declared.Decision.TheVariants.{Granted, MalformedRequest}
use Rattle.model.specs.declared.Response.{Response}
use Rattle.model.specs.State.{empty_monitor}
use Rattle.model.specs.Decisions.{number, refuses}
use Rattle.model.specs.Rules.{check_list, checks, step}
use Rattle.model.specs.Runs.{carry_out, respond, reply}
use Rattle.model.specs.Reading.{table_checks, image_checks, begin, read_table, read_image}
use Rattle.model.specs.Beginnings.{Reached}
use Rattle.model.proofs.Tests.{cond-true, distinct}
use Rattle.model.proofs.Decisions.{number-inj}
use Rattle.model.proofs.Checks.{without, never-answers}
use Rattle.model.proofs.Requests.{decode-range}
use Rattle.invariants.proofs.Steps.{step-refused, respond-all}
use Rattle.invariants.proofs.Outcomes.{step-cases, reply-granted}
use Rattle.images.proofs.Reached.{sound-reached, respond-says}
use Rattle.refusals.specs.First.{Causes, FirstIn, NoneIn, AnswersFirst}
use Rattle.refusals.specs.Causes.{MalformedBytes, request_causes, table_causes, image_causes}
use Rattle.refusals.proofs.RequestCauses.{request-answers}
use Rattle.refusals.proofs.Malformed.{malformed-exactly}
use Rattle.refusals.proofs.ImageCauses.{table-answers, image-answers}

-- the checks of a request answer d exactly when its reply has that number
reply-is : (q : Request) (m : Monitor) (d : Decision) → refuses d ≡ true → (number (step q m).decision ≡ number d) ↔ (checks q m ≡ d)
reply-is q m d r =
    let two : 2 ≤ number d = leb-true 2 (number d) r in (
      λ e. step-cases q m (λ g a k s. absurd (omega (arith, e, k))) (λ g a k s. absurd (omega (arith, e, k))) (λ k c s. sym c ∙ number-inj _ d e),
      λ e. ap number (ap (λ (k : Response). k.decision) (step-refused q m (ap refuses e ∙ r)) ∙ e),
    )

-- no check of a well-formed request answers 2
never-malformed : (q : Request) (m : Monitor) → checks q m ≢ MalformedRequest
unfolding checks
never-malformed q m = never-answers MalformedRequest (distinct _ _ refl) (check_list q m) (go q)
  where
    go : (q : Request) → without MalformedRequest (check_list q m) ≡ true
    go (Get s o x) = refl
    go (Release s o x) = refl
    go (Give s t o x) = refl
    go (Rescind s t o x) = refl
    go (Create s o c) = refl
    go (Delete s o) = refl
    go (ChangeLevel s o l) = refl
    go (SetCompanies s o n) = refl

-- 2: exactly the first row and what is outside the profile of the monitor, on every monitor
pub reply-2-exactly : (g : List ℕ) (m : Monitor) → (reply g m ≡ 2) ↔ MalformedBytes m.profile g
unfolding respond
reply-2-exactly g m = (
  λ e. (malformed-exactly m.profile g).0
      (respond-all (λ (r : Response). number r.decision ≡ 2 → decode m.profile g ≡ None) g m (λ w z. w)
      (λ q d z. absurd (never-malformed q m ((reply-is q m MalformedRequest refl).0 z))) e),
  λ w. ap (λ (d : Decoded). number (carry_out d m).decision) ((malformed-exactly m.profile g).1 w),
)

-- 3 to 9, 14 and 18: the reply is k exactly when cause k holds and no earlier one does
pub reply-first-cause : (m : Monitor) → Reached m → (g : List ℕ) (q : Request) → decode m.profile g ≡ Some q → (d : Decision) → refuses d ≡ true
    → (reply g m ≡ number d) ↔ FirstIn (request_causes q m) d
reply-first-cause m R g q e d r =
    let A = request-answers m (sound-reached m R) q (decode-range m.profile g q e) in
    let a = reply-is q m d r in
    subst (λ (k : Response). (number k.decision ≡ number d) ↔ FirstIn (request_causes q m) d) (sym (respond-says g q m e))
    (λ w. (A.refused d r).0 (a.0 w), λ w. a.1 ((A.refused d r).1 w))

-- 0 or 1: exactly when there is none
pub reply-no-cause : (m : Monitor) → Reached m → (g : List ℕ) (q : Request) → decode m.profile g ≡ Some q
    → (reply g m < 2) ↔ NoneIn (request_causes q m)
reply-no-cause m R g q e =
    let A = request-answers m (sound-reached m R) q (decode-range m.profile g q e) in
    let a = reply-granted q m in
    subst (λ (k : Response). (number k.decision < 2) ↔ NoneIn (request_causes q m)) (sym (respond-says g q m e))
    (λ w. A.granted.0 (a.0 w), λ w. a.1 (A.granted.1 w))

-- ---- tables and images

-- the number of a reading is that of the first cause, 0 exactly when there is none
module _ (causes : Causes) (answer : Decision) (A : AnswersFirst causes answer) where
  first-number : (d : Decision) → refuses d ≡ true → (number answer ≡ number d) ↔ FirstIn causes d
  first-number d r = (λ e. (A.refused d r).0 (number-inj answer d e), λ w. ap number ((A.refused d r).1 w))

  none_number : (number answer ≡ 0) ↔ NoneIn causes
  none_number = (λ e. A.granted.0 (number-inj answer Granted e), λ w. ap number (A.granted.1 w))

pub table-first-cause : (p : Profile) (b : List ℕ) (d : Decision) → refuses d ≡ true → (number (read_table p b).decision ≡ number d) ↔ FirstIn (table_causes p b) d
unfolding read_table begin
table-first-cause p b = first-number (table_causes p b) (table_checks p b) (table-answers p b)

pub table-no-cause : (p : Profile) (b : List ℕ) → (number (read_table p b).decision ≡ 0) ↔ NoneIn (table_causes p b)
unfolding read_table begin
table-no-cause p b = none_number (table_causes p b) (table_checks p b) (table-answers p b)

pub image-first-cause : (p : Profile) (b : List ℕ) (d : Decision) → refuses d ≡ true → (number (read_image p b).decision ≡ number d) ↔ FirstIn (image_causes p b) d
unfolding read_image begin
image-first-cause p b = first-number (image_causes p b) (image_checks p b) (image-answers p b)

pub image-no-cause : (p : Profile) (b : List ℕ) → (number (read_image p b).decision ≡ 0) ↔ NoneIn (image_causes p b)
unfolding read_image begin
image-no-cause p b = none_number (image_causes p b) (image_checks p b) (image-answers p b)

-- a refusal returns "the number and the empty monitor, nobody enrolled"
pub table-refused-empty : (p : Profile) (b : List ℕ) → refuses (read_table p b).decision ≡ true → (read_table p b).monitor ≡ empty_monitor
unfolding read_table begin
table-refused-empty p b e = cond-true (refuses (table_checks p b)) _ _ e

pub image-refused-empty : (p : Profile) (b : List ℕ) → refuses (read_image p b).decision ≡ true → (read_image p b).monitor ≡ empty_monitor
unfolding read_image begin
image-refused-empty p b e = cond-true (refuses (image_checks p b)) _ _ e
