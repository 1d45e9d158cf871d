-- A list of checks answers the first of its causes: one check more, and the end.
-- Assumes nothing.
use mathlib.Core.Path.{◌≡◌, refl, sym, ap}
use mathlib.Core.Logic.{◌⊎◌, inl, inr, ⊎_elim}
use mathlib.Core.Bool.{Bool, true, false}
use Rattle.model.specs.declared.Decision.{Decision}
use Rattle.model.specs.declared.Decision.TheVariants.{Granted}
use Rattle.model.specs.Tests.{unless}
use Rattle.model.specs.Decisions.{refuses}
use Rattle.model.proofs.Tests.{apart}
use Rattle.refusals.specs.First.{Causes, none, row, FirstIn, AnswersFirst}

-- a first cause that is not that of a row is one of the later rows
pub over : {A B C : Type 0} → (A → ⊥) → (A × B) ⊎ C → C
over n = ⊎_elim (λ a. absurd (n a.0)) (λ c. c)

not-granted : {P : Type 0} (d : Decision) → refuses d ≡ true → d ≡ Granted → P
not-granted d r e = apart r (ap refuses e)

-- the end: every check passed
pub answers-end : AnswersFirst none Granted
answers-end =
    record {
      refused = λ d r. (λ e. not-granted d r (sym e), λ f. absurd f);
      granted = (λ e. tt, λ u. refl);
    }

-- a check whose test fails exactly where its cause holds
pub answers-check : (b : Bool) (k : Decision) (cause : Type 0) (later : Causes) (v : Decision) → refuses k ≡ true
    → (b ≡ true → cause → ⊥) → (b ≡ false → cause) → AnswersFirst later v → AnswersFirst (row k cause later) (unless b k v)
unfolding unless
answers-check true k cause later v r f g A =
    record {
      refused = λ d s. (
        λ e. inr (f refl, (A.refused d s).0 e),
        λ w. ⊎_elim (λ (p : (d ≡ k) × cause). absurd (f refl p.1)) (λ (p : (cause → ⊥) × FirstIn later d). (A.refused d s).1 p.1) w,
      );
      granted = (λ e. (f refl, A.granted.0 e), λ p. A.granted.1 p.1);
    }
answers-check false k cause later v r f g A =
    record {
      refused = λ d s. (
        λ e. inl (sym e, g refl),
        λ w. ⊎_elim (λ (p : (d ≡ k) × cause). sym p.0) (λ (p : (cause → ⊥) × FirstIn later d). absurd (p.0 (g refl))) w,
      );
      granted = (λ e. not-granted k r e, λ p. absurd (p.0 (g refl)));
    }
