-- Findings at one place more: along the numbers of subjects and along a list of objects.
-- Assumes nothing.
use Prim.Native.Nat.{ℕ, ◌+◌, ◌<◌}
use native.Mathlib.Numerals.{add-one}
use mathlib.Core.Path.{◌≡◌, refl, sym, ap, ◌∙◌}
use mathlib.Core.Bool.{Bool, true, false, ◌&&◌}
use mathlib.Core.List.{List, [], ◌∷◌, ◌++◌}
use lib.ListN.{length, take, get_or}
use lib.Seq.{take-suc}
use Rattle.model.specs.Tests.{all_below, all_of}
use Rattle.checking.specs.declared.Findings.{Findings}
use Rattle.checking.specs.Checks.{both}

and_assoc : (a b c : Bool) → ((a && b) && c) ≡ (a && (b && c))
and_assoc true b c = refl
and_assoc false b c = refl

and-true : (a : Bool) → (a && true) ≡ a
and-true true = refl
and-true false = refl

pub both-assoc : (a b c : Findings) → both (both a b) c ≡ both a (both b c)
both-assoc a b c = λ i.
    record {
      enrolled = and_assoc a.enrolled b.enrolled c.enrolled i;
      matrix = and_assoc a.matrix b.matrix c.matrix i;
      labelled = and_assoc a.labelled b.labelled c.labelled i;
      simple = and_assoc a.simple b.simple c.simple i;
    }

-- at the numbers below n
abbrev pub below : ℕ → (ℕ → Findings) → Findings
below n f =
    record {
      enrolled = all_below n (λ (s : ℕ). (f s).enrolled);
      matrix = all_below n (λ (s : ℕ). (f s).matrix);
      labelled = all_below n (λ (s : ℕ). (f s).labelled);
      simple = all_below n (λ (s : ℕ). (f s).simple);
    }

-- nothing has failed yet
abbrev pub unbroken : Findings
unbroken = record { enrolled = true; matrix = true; labelled = true; simple = true }

pub both-unbroken : (a : Findings) → a ≡ both a unbroken
both-unbroken a = λ i.
    record {
      enrolled = sym (and-true a.enrolled) i;
      matrix = sym (and-true a.matrix) i;
      labelled = sym (and-true a.labelled) i;
      simple = sym (and-true a.simple) i;
    }

pub below_more : (n : ℕ) (f : ℕ → Findings) → both (below n f) (f n) ≡ below (n + 1) f
below_more n f = rw (add-one n)

-- along a list
abbrev pub along : {A : Type 0} → (A → Findings) → List A → Findings
along f l =
    record {
      enrolled = all_of (λ x. (f x).enrolled) l;
      matrix = all_of (λ x. (f x).matrix) l;
      labelled = all_of (λ x. (f x).labelled) l;
      simple = all_of (λ x. (f x).simple) l;
    }

all_more : {A : Type 0} (f : A → Bool) (l : List A) (i : ℕ) (d : A) → i < length l → (all_of f (take i l) && f (get_or l i d)) ≡ all_of f (take (i + 1) l)
all_more f l i d h = rw (add-one i, take-suc l i d h) (sym (snoc (take i l) (get_or l i d)))
  where
    snoc : (l : List _) (x : _) → all_of f (l ++ (x ∷ [])) ≡ (all_of f l && f x)
    snoc [] x = and-true (f x)
    snoc (y ∷ l) x = ap (λ (b : Bool). f y && b) (snoc l x) ∙ sym (and_assoc (f y) (all_of f l) (f x))

pub along-more : {A : Type 0} (f : A → Findings) (l : List A) (i : ℕ) (d : A) → i < length l → both (along f (take i l)) (f (get_or l i d)) ≡ along f (take (i + 1) l)
along-more f l i d h = λ j.
    record {
      enrolled = all_more (λ x. (f x).enrolled) l i d h j;
      matrix = all_more (λ x. (f x).matrix) l i d h j;
      labelled = all_more (λ x. (f x).labelled) l i d h j;
      simple = all_more (λ x. (f x).simple) l i d h j;
    }
