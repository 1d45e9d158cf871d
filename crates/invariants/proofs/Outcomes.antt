-- The three outcomes of a request: granted, granted where the state was so already, refused; the reply and the state of each.
-- Assumes nothing.
use Prim.Native.Nat.{ℕ, ◌<◌, ◌≤◌}
use native.Mathlib.Omega.{arith}
use mathlib.Core.Path.{◌≡◌, sym, ap, ◌∙◌, subst}
use mathlib.Core.Logic.{◌↔◌}
use mathlib.Core.Bool.{Bool, true, false, not, cond}
use borrow.Author.Tests.{leb-true, eqb-true}
use Rattle.model.specs.declared.Object.{Object}
use Rattle.model.specs.declared.Monitor.{Monitor}
use Rattle.std.specs.Prelude.{Some}
use Rattle.model.specs.declared.Request.{Request}
use Rattle.model.specs.declared.Request.TheVariants.{Get, Release, Give, Rescind, Create, Delete, ChangeLevel, SetCompanies}
use Rattle.model.specs.declared.Decision.TheVariants.{Granted, Already}
use Rattle.model.specs.declared.Response.{Response}
use Rattle.model.specs.Modes.{has, remove}
use Rattle.model.specs.State.{object, rights_of, with_rights}
use Rattle.model.specs.Decisions.{number}
use Rattle.model.specs.Rules.{target, changed, already, afterwards, checks, step}
use Rattle.model.proofs.Tests.{split, clash, and_left, and_right, not_on}
use Rattle.model.proofs.Modes.{add_same, remove-same}
use Rattle.model.proofs.Levels.{same-label}
use Rattle.model.proofs.Equal.{with-held-same, with-rights-same, with-label-same, with-companies-same, with-object-same}
use Rattle.model.proofs.Children.{one-changes, already-takes-none}
use Rattle.invariants.proofs.Steps.{granted-or-refused, step-granted, step-refused}

-- ---- the state was so already

record_same : (q : Request) (ob : Object) → already q ob ≡ true → changed q ob ≡ ob
unfolding already changed
record_same (Get s o x) ob e = with-held-same ob s _ (add_same x _ e)
record_same (Release s o x) ob e = with-held-same ob s _ (remove-same x _ (not_on _ e))
record_same (Give s t o x) ob e = with-rights-same ob t _ (add_same x _ e)
record_same (Rescind s t o x) ob e =
    let p = not_on _ (and_left (not (has x (rights_of ob t))) _ e) in
    let q = not_on _ (and_right (not (has x (rights_of ob t))) _ e) in
    with-held-same (with_rights ob t (remove x (rights_of ob t))) t _ (remove-same x _ q) ∙ with-rights-same ob t _ (remove-same x _ p)
record_same (Create s o c) ob e = clash (sym e)
record_same (Delete s o) ob e = clash (sym e)
record_same (ChangeLevel s o l) ob e =
    with-label-same ob (Some l) (sym (same-label ob.label (Some l) e))
record_same (SetCompanies s o n) ob e = with-companies-same ob n (sym (eqb-true ob.companies n e))

pub state-same : (q : Request) (m : Monitor) → already q (object m (target q)) ≡ true → afterwards q m ≡ m
state-same q m e = one-changes q m (already-takes-none q m e) ∙ with-object-same m (target q) _ (record_same q _ e)

-- ---- the replies

-- the three cases of a step: its reply and the state that it leaves
pub step-cases : {P : Type 0} (q : Request) (m : Monitor)
    → (checks q m ≡ Granted → already q (object m (target q)) ≡ true → number (step q m).decision ≡ 1 → (step q m).monitor ≡ m → P)
    → (checks q m ≡ Granted → already q (object m (target q)) ≡ false → number (step q m).decision ≡ 0 → (step q m).monitor ≡ afterwards q m → P)
    → (2 ≤ number (step q m).decision → (step q m).decision ≡ checks q m → (step q m).monitor ≡ m → P)
    → P
step-cases q m f g h =
    granted-or-refused q m
    (λ e.
    let answer = ap (λ (r : Response). number r.decision) (step-granted q m e) in
    let state = ap (λ (r : Response). r.monitor) (step-granted q m e) in
    split (already q (object m (target q)))
    (λ a. f e a (answer ∙ ap (λ (b : Bool). number (cond b Already Granted)) a) (state ∙ state-same q m a))
    (λ a. g e a (answer ∙ ap (λ (b : Bool). number (cond b Already Granted)) a) state))
    (λ e.
    let same = ap (λ (r : Response). r.decision) (step-refused q m e) in
    h (subst (λ (n : ℕ). 2 ≤ n) (sym (ap number same)) (leb-true 2 (number (checks q m)) e)) same (ap (λ (r : Response). r.monitor) (step-refused q m e)))

-- the reply is a refusal, or the request is granted
pub reply-granted : (q : Request) (m : Monitor) → (number (step q m).decision < 2) ↔ (checks q m ≡ Granted)
reply-granted q m = (
  λ e. step-cases q m (λ g a n s. g) (λ g a n s. g) (λ h d s. absurd (omega (arith, h, e))),
  λ g. step-cases q m (λ g a n s. omega (arith, n)) (λ g a n s. omega (arith, n)) (λ h d s. absurd (omega (arith, h, ap number (d ∙ g)))),
)
