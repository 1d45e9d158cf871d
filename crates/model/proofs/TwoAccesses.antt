-- States in which two accesses are held and no others: there the star property is one entry of the table of mode pairs.
-- Assumes nothing.
use Prim.Native.Nat.{ℕ}
use mathlib.Core.Path.{◌≡◌, refl, ap, ◌∙◌}
use mathlib.Core.Logic.{◌↔◌, ◌≢◌, ◌⊎◌, ⊎_elim, inl, inr}
use mathlib.Core.Bool.{true}
use Rattle.model.specs.declared.Level.{Level}
use Rattle.std.specs.Prelude.{Some, None}
use Rattle.model.specs.declared.Object.{Object}
use Rattle.model.specs.declared.Mode.{Mode}
use Rattle.model.specs.declared.Monitor.{Monitor}
use Rattle.model.specs.Tests.{implies}
use Rattle.model.specs.Levels.{present}
use Rattle.model.specs.Modes.{weight, has}
use Rattle.model.specs.State.{no_modes, no_object, object, held_by, with_owner, with_label, with_rights, with_held, with_object, empty_monitor}
use Rattle.model.specs.Properties.{Star}
use Rattle.model.specs.ModePairs.{entry, Kept, Two}
use Rattle.model.proofs.Tests.{apart, clash, implies-out, set_all, replicate-at}
use Rattle.model.proofs.Modes.{same_mode, same-mode, modes-out, has-none}
use Rattle.model.proofs.ModePairs.{pairs-out, turned, same_object, star-table}

-- where both objects are labelled, the star property asks what the entry asks, and nothing else
pub two-accesses : (m : Monitor) (s p q : ℕ) (x y : Mode) → Two m s p q x y → (object m p).label ≢ None → (object m q).label ≢ None
    → Star m ↔ Kept (entry x y) (object m p).label (object m q).label
two-accesses m s p q x y T hp hq = (
  λ S. (star-table m).0 S s p q x y T.first T.second,
  λ k. (star-table m).1 (λ t i j z u g h.
      ⊎_elim
      (λ a. ⊎_elim
      (λ b. rw (a.0, a.1, b.0, b.1) (same_object x x (object m p).label (λ n. hp)))
      (λ b. rw (a.0, a.1, b.0, b.1) k)
      (T.only t j u h))
      (λ a. ⊎_elim
      (λ b. rw (a.0, a.1, b.0, b.1) (turned x y _ _ k))
      (λ b. rw (a.0, a.1, b.0, b.1) (same_object y y (object m q).label (λ n. hq)))
      (T.only t j u h))
      (T.only t i z g)),
)

-- ---- each entry has such a state

-- a set of one mode has no other
one-mode : (x z : Mode) → has z (weight x) ≡ true → z ≡ x
unfolding has implies
one-mode x z e = same-mode z x (implies-out (has z (weight x)) _ (pairs-out (λ x z. implies (has z (weight x)) (same_mode z x)) refl x z) e)

its-mode : (x : Mode) → has x (weight x) ≡ true
unfolding has
its-mode x = modes-out (λ x. has x (weight x)) refl x

-- an object of subject 0 with this label, to which it has this right and this access
abbrev pub held_object : Level → Mode → Object
held_object l x = with_held (with_rights (with_label (with_owner no_object 0) (Some l)) 0 (weight x)) 0 (weight x)

-- subject 0 has access x to object 0 and access y to object 1
abbrev pub two_held : Mode → Mode → Level → Level → Monitor
two_held x y a b = with_object (with_object empty_monitor 0 (held_object a x)) 1 (held_object b y)

held-there : (l : Level) (x : Mode) (t : ℕ) (z : Mode) → has z (held_by (held_object l x) t) ≡ true → z ≡ x
held-there l x t z =
    set_all (λ t n. has z n ≡ true → z ≡ x) no_modes 0 (weight x) 0
    (λ j e. apart e (ap (has z) (replicate-at 0 16 j) ∙ has-none z)) (one-mode x z) t

-- what an object is held by: the first access to object 0, the second to object 1
abbrev Found : Mode → Mode → ℕ → Mode → ℕ → Object → Type 0
Found x y t z o ob = has z (held_by ob t) ≡ true → ((o ≡ 0) × (z ≡ x)) ⊎ ((o ≡ 1) × (z ≡ y))

two-held : (x y : Mode) (a b : Level) → Two (two_held x y a b) 0 0 1 x y
two-held x y a b =
    record {
      first = its-mode x;
      second = its-mode y;
      only = λ t o z.
          set_all (Found x y t z) (with_object empty_monitor 0 (held_object a x)).objects 1 (held_object b y) no_object
          (set_all (Found x y t z) empty_monitor.objects 0 (held_object a x) no_object
          (λ j e. apart e (ap (λ (ob : Object). has z (held_by ob t)) (replicate-at no_object 64 j) ∙ ap (has z) (replicate-at 0 16 t) ∙ has-none z))
          (λ e. inl (refl, held-there a x t z e)))
          (λ e. inr (refl, held-there b y t z e)) o;
    }

-- "each of its sixteen entries": for every two modes and every two levels
pub entry-met : (x y : Mode) (a b : Level) → Star (two_held x y a b) ↔ Kept (entry x y) (Some a) (Some b)
entry-met x y a b =
    two-accesses (two_held x y a b) 0 0 1 x y (two-held x y a b) (λ e. clash (ap present e)) (λ e. clash (ap present e))
