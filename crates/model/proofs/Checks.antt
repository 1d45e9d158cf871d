-- Laws of a list of checks: it answers Granted exactly where all pass, and otherwise one of its refusals.
-- Assumes nothing.
use mathlib.Core.Path.{◌≡◌, refl, ◌∙◌}
use mathlib.Core.Logic.{◌⊎◌, inl, inr, ◌≢◌}
use mathlib.Core.Bool.{Bool, true, false, not}
use mathlib.Core.List.{List, [], ◌∷◌}
use lib.Dec.{eqb}
use Rattle.model.specs.declared.Decision.{Decision}
use Rattle.model.specs.declared.Decision.TheVariants.{Granted}
use Rattle.model.specs.Tests.{all_of, unless, first_failing}
use Rattle.model.specs.Decisions.{number, refuses}
use Rattle.model.proofs.Tests.{and_left, and_right, not_on, passed, pass, distinct, not-stop}

-- every check passes
abbrev pub Passed : List (Bool × Decision) → Type 0
Passed [] = Unit {0}
Passed (c ∷ later) = (c.0 ≡ true) × Passed later

-- every answer of the list is a refusal
abbrev pub refusals : List (Bool × Decision) → Bool
refusals l = all_of (λ (c : Bool × Decision). refuses c.1) l

pub all-passed : (l : List (Bool × Decision)) → refusals l ≡ true → first_failing l ≡ Granted → Passed l
all-passed [] r e = tt
all-passed (c ∷ later) r e =
    let p = passed c.0 c.1 (first_failing later) (and_left (refuses c.1) (refusals later) r) e in
    (p.0, all-passed later (and_right (refuses c.1) (refusals later) r) p.1)

pub all_pass : (l : List (Bool × Decision)) → Passed l → first_failing l ≡ Granted
all_pass [] p = refl
all_pass (c ∷ later) p = pass c.0 c.1 (first_failing later) p.0 ∙ all_pass later p.1

-- it answers Granted or a refusal
pub granted-or-refusal : (l : List (Bool × Decision)) → refusals l ≡ true → (first_failing l ≡ Granted) ⊎ (refuses (first_failing l) ≡ true)
unfolding unless
granted-or-refusal [] r = inl refl
granted-or-refusal (c ∷ later) r =
    either c.0 c.1 (first_failing later) (and_left (refuses c.1) (refusals later) r) (granted-or-refusal later (and_right (refuses c.1) (refusals later) r))
  where
    either : (b : Bool) (d v : Decision) → refuses d ≡ true → (v ≡ Granted) ⊎ (refuses v ≡ true) → (unless b d v ≡ Granted) ⊎ (refuses (unless b d v) ≡ true)
    either true d v r h = h
    either false d v r h = inr r

-- and never an answer that is not in it
abbrev pub without : Decision → List (Bool × Decision) → Bool
without d l = all_of (λ (c : Bool × Decision). not (eqb (number c.1) (number d))) l

pub never-answers : (d : Decision) → Granted ≢ d → (l : List (Bool × Decision)) → without d l ≡ true → first_failing l ≢ d
never-answers d g [] r = g
never-answers d g (c ∷ later) r =
    not-stop c.0 c.1 (first_failing later) d
    (distinct c.1 d (not_on _ (and_left (not (eqb (number c.1) (number d))) (without d later) r)))
    (never-answers d g later (and_right (not (eqb (number c.1) (number d))) (without d later) r))
