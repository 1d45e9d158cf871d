-- What a check of the code, nothing or the refusal, says of the definition's answer; and the number of both.
-- Assumes nothing.
use Rattle.std.specs.Prelude.{◌≡◌, ◌⊎◌, Bool, true, false, cond, Result, Ok, Err}
use mathlib.Core.Path.{sym, ap, ◌∙◌}
use mathlib.Core.Logic.{inl, inr}
use Rattle.model.specs.declared.Decision.{Decision}
use Rattle.model.specs.declared.Decision.TheVariants.{Granted}
use Rattle.model.specs.Decisions.{number, refuses, checked, checked_number}
use Rattle.model.proofs.Tests.{split, cond-true, cond-false}

module _ (d : Decision) where
  pub at-refusal : refuses d ≡ true → checked d ≡ Err d
  unfolding checked
  at-refusal t = cond-true (refuses d) (Err d) (Ok tt) t

  pub at-pass : refuses d ≡ false → checked d ≡ Ok tt
  unfolding checked
  at-pass f = cond-false (refuses d) (Err d) (Ok tt) f

  -- the code refuses
  pub refusal : (e : Decision) → checked d ≡ Err e → (refuses d ≡ true) × (e ≡ d)
  refusal e h =
      split (refuses d)
      (λ t. (t, let z : Err e ≡ Err d = sym h ∙ at-refusal t in cc))
      (λ f. let z : Err e ≡ Ok tt = sym h ∙ at-pass f in cc)

  -- the code goes on
  pub passes : checked d ≡ Ok tt → refuses d ≡ false
  passes h =
      split (refuses d)
      (λ t. let z : Ok tt ≡ Err d = sym h ∙ at-refusal t in cc)
      (λ f. f)

  -- the number of the answer is that of the definition: which answers 1 only to a request
  pub checked-number : (d ≡ Granted) ⊎ (refuses d ≡ true) → checked_number (checked d) ≡ number d
  unfolding checked
  checked-number (inl e) = rw e
  checked-number (inr t) = ap checked_number (at-refusal t)

-- ---- one check of the code: `ensure(b, d)?`, where b is the test s of the definitions

-- it went on
pub held : {b s : Bool} (d : Decision) {r : Result (Unit {0}) Decision} → r ≡ cond b (Ok tt) (Err d) → r ≡ Ok tt → b ≡ s → s ≡ true
held {b} {s} d ensured ok same =
    split b (λ t. sym same ∙ t)
    (λ f. let z : Ok tt ≡ Err d = sym ok ∙ ensured ∙ cond-false b (Ok tt) (Err d) f in cc)

-- it refused
pub failed : {b s : Bool} {d e : Decision} {r : Result (Unit {0}) Decision} → r ≡ cond b (Ok tt) (Err d) → r ≡ Err e → b ≡ s → (s ≡ false) × (e ≡ d)
failed {b} {s} {d} {e} ensured err same =
    split b (λ t. let z : Err e ≡ Ok tt = sym err ∙ ensured ∙ cond-true b (Ok tt) (Err d) t in cc)
    (λ f. (sym same ∙ f, let z : Err e ≡ Err d = sym err ∙ ensured ∙ cond-false b (Ok tt) (Err d) f in cc))
