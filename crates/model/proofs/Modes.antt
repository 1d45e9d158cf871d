-- Laws of sets of modes, by a test over the sixteen sets.
-- Assumes nothing.
use Prim.Native.Nat.{ℕ, ◌+◌, ◌-◌, ◌<◌}
use mathlib.Core.Path.{◌≡◌, refl, sym, ap, ◌∙◌}
use mathlib.Core.Bool.{Bool, true, false, cond, ◌&&◌, ◌||◌, not, beq}
use lib.Dec.{ltb, ltb→lt, eqb}
use borrow.Author.Tests.{eqb-true}
use Rattle.model.specs.declared.Mode.{Mode}
use Rattle.model.specs.declared.Mode.TheVariants.{Read, Write, Append, Execute}
use Rattle.model.specs.Tests.{all_below, implies}
use Rattle.model.specs.Levels.{subset}
use Rattle.model.specs.Modes.{has, add, remove, weight, observes, alters, needs_label, any_observes, any_alters, any_needs_label, any_held}
use Rattle.model.proofs.Tests.{below_out, same_bool, beq_same, and_left, and_right, and_both, or_cases, or_left, or_right, to_t, clash, implies-out, implies-in}

-- the same mode
abbrev pub same_mode : Mode → Mode → Bool
same_mode x y = eqb (weight x) (weight y)

-- a test at each mode
abbrev pub all_modes : (Mode → Bool) → Bool
all_modes f = f Read && (f Write && (f Append && f Execute))

pub modes-out : (f : Mode → Bool) → all_modes f ≡ true → (x : Mode) → f x ≡ true
modes-out f e Read = and_left (f Read) _ e
modes-out f e Write = and_left (f Write) _ (and_right (f Read) _ e)
modes-out f e Append = and_left (f Append) _ (and_right (f Write) _ (and_right (f Read) _ e))
modes-out f e Execute = and_right (f Append) _ (and_right (f Write) _ (and_right (f Read) _ e))

pub modes-in : (f : Mode → Bool) → ((x : Mode) → f x ≡ true) → all_modes f ≡ true
modes-in f h = and_both (h Read) (and_both (h Write) (and_both (h Append) (h Execute)))

pub same-mode : (x y : Mode) → same_mode x y ≡ true → x ≡ y
same-mode x y e = same-weight (weight x) (weight y) (eqb-true (weight x) (weight y) e) x y refl refl
  where
    mode_of_weight : ℕ → Mode
    mode_of_weight n = cond (eqb n 8) Read (cond (eqb n 4) Write (cond (eqb n 2) Append Execute))

    weight-back : (x : Mode) → mode_of_weight (weight x) ≡ x
    weight-back Read = refl
    weight-back Write = refl
    weight-back Append = refl
    weight-back Execute = refl

    same-weight : (a b : ℕ) → a ≡ b → (x y : Mode) → a ≡ weight x → b ≡ weight y → x ≡ y
    same-weight a b e x y p q = sym (weight-back x) ∙ ap mode_of_weight (sym p ∙ e ∙ q) ∙ weight-back y

pub mode-itself : (x : Mode) → same_mode x x ≡ true
mode-itself x = modes-out (λ x. same_mode x x) refl x

-- a test at two modes and a set
sets : (f : Mode → Mode → ℕ → Bool) → all_modes (λ x. all_modes (λ y. all_below 16 (f x y))) ≡ true
    → (x y : Mode) (n : ℕ) → n < 16 → f x y n ≡ true
sets f e x y n h = below_out 16 (f x y) (modes-out (λ y. all_below 16 (f x y)) (modes-out (λ x. all_modes (λ y. all_below 16 (f x y))) e x) y) n h

pub has-add : (x y : Mode) (n : ℕ) → n < 16 → has x (add y n) ≡ (same_mode x y || has x n)
unfolding has add
has-add x y n h = same_bool _ _ (sets (λ x y n. beq (has x (add y n)) (same_mode x y || has x n)) refl x y n h)

pub has-remove : (x y : Mode) (n : ℕ) → n < 16 → has x (remove y n) ≡ (not (same_mode x y) && has x n)
unfolding has remove
has-remove x y n h = same_bool _ _ (sets (λ x y n. beq (has x (remove y n)) (not (same_mode x y) && has x n)) refl x y n h)

-- what is held afterwards was held, or is the mode added
pub held-add : {P : Type 0} (x y : Mode) (n : ℕ) → n < 16 → has y (add x n) ≡ true → (y ≡ x → P) → (has y n ≡ true → P) → P
held-add x y n h e f g = or_cases (same_mode y x) (has y n) (sym (has-add y x n h) ∙ e) (λ q. f (same-mode y x q)) g

pub held-remove : (x y : Mode) (n : ℕ) → n < 16 → has y (remove x n) ≡ true → has y n ≡ true
held-remove x y n h e = and_right (not (same_mode y x)) (has y n) (sym (has-remove y x n h) ∙ e)

pub add-has : (x : Mode) (n : ℕ) → n < 16 → has x (add x n) ≡ true
add-has x n h = has-add x x n h ∙ or_left (same_mode x x) (has x n) (mode-itself x)

pub remove-has : (x : Mode) (n : ℕ) → n < 16 → has x (remove x n) ≡ false
remove-has x n h = has-remove x x n h ∙ ap (λ (b : Bool). not b && has x n) (mode-itself x)

pub add-fits : (y : Mode) (n : ℕ) → n < 16 → add y n < 16
unfolding has add
add-fits y n h = ltb→lt _ _ (to_t (sets (λ x y n. ltb (add y n) 16) refl y y n h))

pub remove-fits : (y : Mode) (n : ℕ) → n < 16 → remove y n < 16
unfolding has remove
remove-fits y n h = ltb→lt _ _ (to_t (sets (λ x y n. ltb (remove y n) 16) refl y y n h))

pub add_same : (x : Mode) (n : ℕ) → has x n ≡ true → add x n ≡ n
unfolding add
add_same x n e = ap (λ (b : Bool). cond b n (n + weight x)) e

pub remove-same : (x : Mode) (n : ℕ) → has x n ≡ false → remove x n ≡ n
unfolding remove
remove-same x n e = ap (λ (b : Bool). cond b (n - weight x) n) e

pub has-none : (x : Mode) → has x 0 ≡ false
unfolding has
has-none x = same_bool _ _ (modes-out (λ x. beq (has x 0) false) refl x)

-- two sets with the same modes are one
pub modes-ext : (n k : ℕ) → n < 16 → k < 16 → ((x : Mode) → has x n ≡ has x k) → n ≡ k
unfolding has implies
modes-ext n k h g e =
    eqb-true n k
    (implies-out (all_modes (λ x. beq (has x n) (has x k))) (eqb n k)
    (below_out 16 (λ k. implies (all_modes (λ x. beq (has x n) (has x k))) (eqb n k))
    (below_out 16 (λ n. all_below 16 (λ k. implies (all_modes (λ x. beq (has x n) (has x k))) (eqb n k))) refl n h) k g)
    (modes-in (λ x. beq (has x n) (has x k)) (λ x. beq_same _ _ (e x))))

-- the test of a set within another, mode by mode
pub subset-modes : (h r : ℕ) → h < 16 → r < 16 → subset 4 h r ≡ all_modes (λ x. implies (has x h) (has x r))
unfolding has implies
subset-modes h r p q =
    same_bool _ _
    (below_out 16 (λ r. beq (subset 4 h r) (all_modes (λ x. implies (has x h) (has x r))))
    (below_out 16 (λ h. all_below 16 (λ r. beq (subset 4 h r) (all_modes (λ x. implies (has x h) (has x r))))) refl h p) r q)

pub subset-out : (h r : ℕ) → h < 16 → r < 16 → subset 4 h r ≡ true → (x : Mode) → has x h ≡ true → has x r ≡ true
subset-out h r p q e x = implies-out (has x h) (has x r) (modes-out (λ x. implies (has x h) (has x r)) (sym (subset-modes h r p q) ∙ e) x)

pub subset-in : (h r : ℕ) → h < 16 → r < 16 → ((x : Mode) → has x h ≡ true → has x r ≡ true) → subset 4 h r ≡ true
subset-in h r p q e = subset-modes h r p q ∙ modes-in (λ x. implies (has x h) (has x r)) (λ x. implies-in _ _ (e x))

-- ---- some mode of a set

pub any-observes : (x : Mode) (n : ℕ) → has x n ≡ true → observes x ≡ true → any_observes n ≡ true
any-observes Read n e o = or_left (has Read n) _ e
any-observes Write n e o = or_right (has Read n) _ e
any-observes Append n e o = clash (sym o)
any-observes Execute n e o = clash (sym o)

pub any-alters : (x : Mode) (n : ℕ) → has x n ≡ true → alters x ≡ true → any_alters n ≡ true
any-alters Read n e o = clash (sym o)
any-alters Write n e o = or_right (has Append n) _ e
any-alters Append n e o = or_left (has Append n) _ e
any-alters Execute n e o = clash (sym o)

pub any-needs-label : (x : Mode) (n : ℕ) → has x n ≡ true → needs_label x ≡ true → any_needs_label n ≡ true
any-needs-label x n e o =
    or_cases (observes x) (alters x) o (λ q. or_left (any_observes n) _ (any-observes x n e q)) (λ q. or_right (any_observes n) _ (any-alters x n e q))

pub observes-some : {P : Type 0} (n : ℕ) → any_observes n ≡ true → ((x : Mode) → has x n ≡ true → observes x ≡ true → P) → P
observes-some n e f = or_cases (has Read n) (has Write n) e (λ q. f Read q refl) (λ q. f Write q refl)

pub alters-some : {P : Type 0} (n : ℕ) → any_alters n ≡ true → ((x : Mode) → has x n ≡ true → alters x ≡ true → P) → P
alters-some n e f = or_cases (has Append n) (has Write n) e (λ q. f Append q refl) (λ q. f Write q refl)

pub needs-label-some : {P : Type 0} (n : ℕ) → any_needs_label n ≡ true → ((x : Mode) → has x n ≡ true → needs_label x ≡ true → P) → P
needs-label-some n e f =
    or_cases (any_observes n) (any_alters n) e
    (λ q. observes-some n q (λ x h o. f x h (or_left (observes x) (alters x) o)))
    (λ q. alters-some n q (λ x h o. f x h (or_right (observes x) (alters x) o)))

pub any_held-has : (x : Mode) (n : ℕ) → has x n ≡ true → any_held n ≡ true
any_held-has Read n e = or_left (any_needs_label n) _ (any-needs-label Read n e refl)
any_held-has Write n e = or_left (any_needs_label n) _ (any-needs-label Write n e refl)
any_held-has Append n e = or_left (any_needs_label n) _ (any-needs-label Append n e refl)
any_held-has Execute n e = or_right (any_needs_label n) _ e

pub held-some : {P : Type 0} (n : ℕ) → any_held n ≡ true → ((x : Mode) → has x n ≡ true → P) → P
held-some n e f = or_cases (any_needs_label n) (has Execute n) e (λ q. needs-label-some n q (λ x h o. f x h)) (λ q. f Execute q)
