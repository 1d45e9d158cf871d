-- Reply 0 exactly where a granted request changes the state, 1 exactly where it leaves it; a refusal leaves it.
-- Assumes nothing.
use Prim.Native.Nat.{ℕ, ◌<◌, ◌≤◌}
use native.Mathlib.Omega.{arith}
use mathlib.Core.Path.{◌≡◌, sym, ap, ◌∙◌}
use mathlib.Core.Logic.{◌↔◌, ◌≢◌}
use mathlib.Core.Bool.{false, not}
use borrow.Author.Tests.{eq-eqb}
use Rattle.model.specs.declared.Object.{Object}
use Rattle.model.specs.declared.Monitor.{Monitor}
use Rattle.std.specs.Prelude.{Some}
use Rattle.model.specs.declared.Request.{Request}
use Rattle.model.specs.declared.Request.TheVariants.{Get, Release, Give, Rescind, Create, Delete, ChangeLevel, SetCompanies}
use Rattle.model.specs.declared.Decision.TheVariants.{Granted}
use Rattle.model.specs.Modes.{has, remove}
use Rattle.model.specs.State.{object, held_by, rights_of, with_held, with_rights, WellFormed}
use Rattle.model.specs.Decisions.{number}
use Rattle.model.specs.Requests.{InRange}
use Rattle.model.specs.Rules.{target, changed, already, afterwards, checks, step}
use Rattle.model.proofs.Tests.{apart, and_both, not_on, not-off}
use Rattle.model.proofs.Modes.{add-has, remove-has}
use Rattle.model.proofs.Levels.{label_same}
use Rattle.model.proofs.After.{target_below, object-there, rights-stored, held-stored}
use Rattle.invariants.proofs.Granted.{granted-create, granted-delete}
use Rattle.invariants.proofs.Outcomes.{step-cases}

-- ---- where the state was not so already, it changes

module _ (m : Monitor) (W : WellFormed m) where
  -- what a row has at s after a store there, where the store made no difference
  held-now : (o s n : ℕ) → s < 16 → with_held (object m o) s n ≡ object m o → n ≡ held_by (object m o) s
  held-now o s n h w =
      sym (held-stored (object m o) (W.objects_formed o) s n h) ∙ ap (λ (b : Object). held_by b s) w

  rights-now : (o s n : ℕ) → s < 16 → with_rights (object m o) s n ≡ object m o → n ≡ rights_of (object m o) s
  rights-now o s n h w =
      sym (rights-stored (object m o) (W.objects_formed o) s n h) ∙ ap (λ (b : Object). rights_of b s) w

  record-differs : (q : Request) → InRange q → checks q m ≡ Granted → already q (object m (target q)) ≡ false
      → changed q (object m (target q)) ≡ object m (target q) → ⊥
  unfolding already changed
  record-differs (Get s o x) r g e w =
      apart (sym (ap (has x) (held-now o s _ r.0 w)) ∙ add-has x _ ((W.objects_formed o).shape.held_fit s)) e
  record-differs (Release s o x) r g e w =
      apart (not-off _ e) (sym (ap (has x) (held-now o s _ r.0 w)) ∙ remove-has x _ ((W.objects_formed o).shape.held_fit s))
  record-differs (Give s t o x) r g e w =
      apart (sym (ap (has x) (rights-now o t _ r.1 w)) ∙ add-has x _ ((W.objects_formed o).shape.rights-fit t)) e
  record-differs (Rescind s t o x) r g e w =
      let F = W.objects_formed o in
      let rights : remove x (rights_of (object m o) t) ≡ rights_of (object m o) t =
      sym (rights-stored (object m o) F t _ r.1) ∙ ap (λ (b : Object). rights_of b t) w in
      let held : remove x (held_by (object m o) t) ≡ held_by (object m o) t =
      sym (held-stored (object m o) F t _ r.1) ∙ ap (λ (b : Object). held_by b t) w in
      apart
      (and_both (ap not (sym (ap (has x) rights) ∙ remove-has x _ (F.shape.rights-fit t))) (ap not (sym (ap (has x) held) ∙ remove-has x _ (F.shape.held_fit t))))
      e
  record-differs (Create s o c) r g e w =
      apart (ap (λ (k : Object). k.live) (sym w)) (not_on _ (granted-create m s o c g).free)
  record-differs (Delete s o) r g e w =
      apart (granted-delete m s o g).live (ap (λ (k : Object). k.live) (sym w))
  record-differs (ChangeLevel s o l) r g e w = apart (label_same _ (Some l) (ap (λ (k : Object). k.label) (sym w))) e
  record-differs (SetCompanies s o n) r g e w = apart (eq-eqb _ n (ap (λ (k : Object). k.companies) (sym w))) e

pub state-differs : (q : Request) (m : Monitor) → WellFormed m → InRange q → checks q m ≡ Granted → already q (object m (target q)) ≡ false → afterwards q m ≢ m
state-differs q m W r g e w =
    record-differs m W q r g e
    (sym (object-there q m W (target_below q r))
    ∙ ap (λ (n : Monitor). object n (target q)) w)

-- ---- the replies

-- "Reply 0: granted and the state changed"
pub reply-zero : (q : Request) (m : Monitor) → WellFormed m → InRange q
    → (number (step q m).decision ≡ 0) ↔ ((checks q m ≡ Granted) × ((step q m).monitor ≢ m))
reply-zero q m W r = (
  λ e. step-cases q m (λ g a n s. absurd (omega (arith, e, n))) (λ g a n s. (g, λ w. state-differs q m W r g a (sym s ∙ w))) (λ h d s. absurd (omega (arith, e, h))),
  λ p. step-cases q m (λ g a n s. absurd (p.1 s)) (λ g a n s. n) (λ h d s. absurd (p.1 s)),
)

-- "Reply 1: granted and the state was so already"
pub reply-one : (q : Request) (m : Monitor) → WellFormed m → InRange q
    → (number (step q m).decision ≡ 1) ↔ ((checks q m ≡ Granted) × ((step q m).monitor ≡ m))
reply-one q m W r = (
  λ e. step-cases q m (λ g a n s. (g, s)) (λ g a n s. absurd (omega (arith, e, n))) (λ h d s. absurd (omega (arith, e, h))),
  λ p. step-cases q m (λ g a n s. n) (λ g a n s. absurd (state-differs q m W r g a (sym s ∙ p.1)))
      (λ h d s. absurd (omega (arith, h, ap number (d ∙ p.0)))),
)

-- a refusal leaves "the whole state"
pub refusal-leaves : (q : Request) (m : Monitor) → 2 ≤ number (step q m).decision → (step q m).monitor ≡ m
refusal-leaves q m h = step-cases q m (λ g a n s. s) (λ g a n s. absurd (omega (arith, h, n))) (λ k d s. s)
