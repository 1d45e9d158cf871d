-- A granted request has the effect that the scope's table states, in every reached state.
-- Assumes nothing.
use Prim.Native.Nat.{ℕ, ◌<◌}
use mathlib.Core.Path.{◌≡◌, refl, sym, ap, ◌∙◌, subst}
use mathlib.Core.Bool.{Bool, true, false, cond}
use mathlib.Core.List.{List}
use lib.Seq.{get_or-set_same, get_or-set_other}
use Rattle.model.specs.declared.Object.{Object}
use Rattle.model.specs.declared.Monitor.{Monitor}
use Rattle.model.specs.declared.Mode.TheVariants.{Read, Write, Append, Execute}
use Rattle.model.specs.declared.Request.{Request}
use Rattle.model.specs.declared.Request.TheVariants.{Get, Release, Give, Rescind, Create, Delete, ChangeLevel, SetCompanies}
use Rattle.std.specs.Prelude.{Some}
use Rattle.model.specs.declared.Decision.TheVariants.{Granted}
use Rattle.model.specs.declared.Response.{Response}
use Rattle.model.specs.Modes.{has}
use Rattle.model.specs.State.{no_modes, object, rights_of, held_by, WellFormed}
use Rattle.model.specs.Decisions.{number}
use Rattle.model.specs.Requests.{decode, InRange}
use Rattle.model.specs.Rules.{target, changed, checks, step}
use Rattle.model.specs.Runs.{respond, reply}
use Rattle.model.specs.Beginnings.{Reached}
use Rattle.model.proofs.Tests.{apart}
use Rattle.model.proofs.Modes.{add-has, remove-has}
use Rattle.model.proofs.Requests.{decode-range}
use Rattle.model.proofs.After.{target_below, object-there, rights-stored, held-stored}
use Rattle.invariants.proofs.Form.{no-modes}
use Rattle.invariants.proofs.Steps.{step-granted}
use Rattle.invariants.proofs.Outcomes.{reply-granted}
use Rattle.images.proofs.Reached.{sound-reached, respond-says}
use Rattle.effects.specs.Effects.{Effect}

module _ (m : Monitor) (W : WellFormed m) where
  effect_of : (q : Request) → InRange q → (n : Monitor) → object n (target q) ≡ changed q (object m (target q)) → Effect q n
  unfolding changed has
  effect_of (Get s o x) r n e =
      ap (λ (k : Object). has x (held_by k s)) e ∙ ap (has x) (held-stored (object m o) (W.objects_formed o) s _ r.0) ∙ add-has x _ ((W.objects_formed o).shape.held_fit s)
  effect_of (Release s o x) r n e =
      λ w. apart w (ap (λ (k : Object). has x (held_by k s)) e ∙ ap (has x) (held-stored (object m o) (W.objects_formed o) s _ r.0) ∙ remove-has x _ ((W.objects_formed o).shape.held_fit s))
  effect_of (Give s t o x) r n e =
      ap (λ (k : Object). has x (rights_of k t)) e ∙ ap (has x) (rights-stored (object m o) (W.objects_formed o) t _ r.1) ∙ add-has x _ ((W.objects_formed o).shape.rights-fit t)
  effect_of (Rescind s t o x) r n e = (
    λ w. apart w (ap (λ (k : Object). has x (rights_of k t)) e ∙ ap (has x) (rights-stored (object m o) (W.objects_formed o) t _ r.1) ∙ remove-has x _ ((W.objects_formed o).shape.rights-fit t)),
    λ w. apart w (ap (λ (k : Object). has x (held_by k t)) e ∙ ap (has x) (held-stored (object m o) (W.objects_formed o) t _ r.1) ∙ remove-has x _ ((W.objects_formed o).shape.held_fit t)),
  )
  effect_of (Create s o c) r n e =
      let v = c.execute in
      let mine : rights_of (object n o) s ≡ cond v 15 14 = ap (λ (k : Object). rights_of k s) e ∙ get_or-set_same no_modes s (cond v 15 14) 0 r.0 in
      record {
        live = ap (λ (k : Object). k.live) e;
        owned = ap (λ (k : Object). k.owner) e;
        unlabelled = ap (λ (k : Object). k.label) e;
        no-company = ap (λ (k : Object). k.companies) e;
        under = ap (λ (k : Object). k.parent) e;
        read = ap (has Read) mine ∙ either (has Read) true v refl refl;
        write = ap (has Write) mine ∙ either (has Write) true v refl refl;
        append = ap (has Append) mine ∙ either (has Append) true v refl refl;
        execute_by_mode = ap (has Execute) mine ∙ by_mode v;
        others = λ t h. ap (λ (k : Object). rights_of k t) e ∙ get_or-set_other no_modes s t (cond v 15 14) 0 h ∙ no-modes t;
        nobody_holds = λ t. ap (λ (k : Object). held_by k t) e ∙ no-modes t;
      }
    where
      either : (f : ℕ → Bool) (b v : Bool) → f 15 ≡ b → f 14 ≡ b → f (cond v 15 14) ≡ b
      either f b true p q = p
      either f b false p q = q

      by_mode : (v : Bool) → has Execute (cond v 15 14) ≡ v
      by_mode true = refl
      by_mode false = refl
  effect_of (Delete s o) r n e = e
  effect_of (ChangeLevel s o l) r n e = ap (λ (k : Object). k.label) e
  effect_of (SetCompanies s o k) r n e = ap (λ (b : Object). b.companies) e

  pub granted-effect : (q : Request) → InRange q → checks q m ≡ Granted → Effect q (step q m).monitor
  granted-effect q r g =
      effect_of q r (step q m).monitor
      (ap (λ (k : Response). object k.monitor (target q)) (step-granted q m g)
      ∙ object-there q m W (target_below q r))

-- reply 0 or 1 to any bytes that say a request, on any reached monitor: the state left has its effect
pub reply-effect : (m : Monitor) → Reached m → (g : List ℕ) (q : Request) → decode m.profile g ≡ Some q → reply g m < 2 → Effect q (respond g m).monitor
reply-effect m R g q e h =
    let same = respond-says g q m e in
    subst (λ (k : Response). Effect q k.monitor) (sym same)
    (granted-effect m (sound-reached m R).formed q (decode-range m.profile g q e) ((reply-granted q m).0 (subst (λ (k : Response). number k.decision < 2) same h)))
