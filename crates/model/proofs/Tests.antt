-- Laws of tests and of lists: what a passed test says at each place, and what holds at each place after a store.
-- Assumes nothing.
use Prim.Native.Nat.{ℕ, zero, suc, ◌≤◌, ◌<◌}
use native.Mathlib.Nat.{le_of_suc-le-suc, not-suc-le-zero, eq-or-lt_of_le}
use native.Mathlib.Omega.{arith}
use native.Mathlib.Decide.{dec_le}
use mathlib.Core.Path.{◌≡◌, refl, sym, ap, ◌∙◌, subst}
use mathlib.Core.Logic.{◌⊎◌, inl, inr, ⊎_elim, ◌≢◌}
use mathlib.Core.Bool.{Bool, true, false, cond, ◌&&◌, ◌||◌, not, beq}
use mathlib.Core.List.{List, [], ◌∷◌, map}
use lib.ListN.{length, get_or, set, replicate, length-map, get_or-eq_default}
use lib.Dec.{T, eqb}
use borrow.Author.Tests.{eq-eqb}
use Rattle.model.specs.declared.Decision.{Decision}
use Rattle.model.specs.declared.Decision.TheVariants.{Granted}
use Rattle.model.specs.Tests.{all_below, all_of, implies, unless}
use Rattle.model.specs.Decisions.{number, refuses}

-- ---- Bool

-- a test's two cases, with the equation
pub split : {P : Type 0} (b : Bool) → (b ≡ true → P) → (b ≡ false → P) → P
split true f g = f refl
split false f g = g refl

pub clash : {P : Type 0} → true ≡ false → P
clash e = let z : ◌≡◌ {A = ℕ} 0 1 = cc in absurd (omega arith)

pub apart : {P : Type 0} {b : Bool} → b ≡ true → b ≡ false → P
apart p q = clash (sym p ∙ q)

pub and_both : {a b : Bool} → a ≡ true → b ≡ true → (a && b) ≡ true
and_both p q = cc

pub and_left : (a b : Bool) → (a && b) ≡ true → a ≡ true
and_left true b e = refl
and_left false b e = e

pub and_right : (a b : Bool) → (a && b) ≡ true → b ≡ true
and_right true b e = e
and_right false b e = clash (sym e)

-- where two tests do not both pass, one fails
pub and-false : {P : Type 0} (a b : Bool) → (a && b) ≡ false → (a ≡ false → P) → (b ≡ false → P) → P
and-false true b e f g = g e
and-false false b e f g = f refl

pub or_cases : {P : Type 0} (a b : Bool) → (a || b) ≡ true → (a ≡ true → P) → (b ≡ true → P) → P
or_cases true b e f g = f refl
or_cases false b e f g = g e

pub or_left : (a b : Bool) → a ≡ true → (a || b) ≡ true
or_left true b e = refl
or_left false b e = clash (sym e)

pub or_right : (a b : Bool) → b ≡ true → (a || b) ≡ true
or_right true b e = refl
or_right false b e = e

-- where neither passes
pub or-false : (a b : Bool) → (a || b) ≡ false → (a ≡ false) × (b ≡ false)
or-false true b e = clash e
or-false false b e = (refl, e)

pub implies-out : (a b : Bool) → implies a b ≡ true → a ≡ true → b ≡ true
unfolding implies
implies-out true b e h = e
implies-out false b e h = clash (sym h)

pub implies-in : (a b : Bool) → (a ≡ true → b ≡ true) → implies a b ≡ true
unfolding implies
implies-in true b f = f refl
implies-in false b f = refl

pub implies-false : (a b : Bool) → implies a b ≡ false → (a ≡ true) × (b ≡ false)
unfolding implies
implies-false true b e = (refl, e)
implies-false false b e = clash e

pub not-not : (b : Bool) → not (not b) ≡ b
not-not true = refl
not-not false = refl

pub not_on : (b : Bool) → not b ≡ true → b ≡ false
not_on true e = sym e
not_on false e = refl

pub not-off : (b : Bool) → not b ≡ false → b ≡ true
not-off true e = refl
not-off false e = sym e

pub to_t : {b : Bool} → b ≡ true → T b
to_t e = subst T (sym e) tt

pub same_bool : (a b : Bool) → beq a b ≡ true → a ≡ b
same_bool true true e = refl
same_bool false false e = refl
same_bool true false e = sym e
same_bool false true e = e

pub beq_same : (a b : Bool) → a ≡ b → beq a b ≡ true
beq_same true true e = refl
beq_same false false e = refl
beq_same true false e = clash e
beq_same false true e = clash (sym e)

-- two tests that pass together are the same
pub bool-ext : (a b : Bool) → (a ≡ true → b ≡ true) → (b ≡ true → a ≡ true) → a ≡ b
bool-ext true b f g = sym (f refl)
bool-ext false true f g = g refl
bool-ext false false f g = refl

-- what holds of both cases holds of the choice
pub cond-all : {A : Type 0} (P : A → Type 0) (b : Bool) (x y : A) → (b ≡ true → P x) → (b ≡ false → P y) → P (cond b x y)
cond-all P true x y p q = p refl
cond-all P false x y p q = q refl

pub cond-true : {A : Type 0} (b : Bool) (x y : A) → b ≡ true → cond b x y ≡ x
cond-true true x y e = refl
cond-true false x y e = clash (sym e)

pub cond-false : {A : Type 0} (b : Bool) (x y : A) → b ≡ false → cond b x y ≡ y
cond-false true x y e = clash e
cond-false false x y e = refl

-- ---- checks

-- two answers with different numbers
pub distinct : (d k : Decision) → eqb (number d) (number k) ≡ false → d ≢ k
distinct d k e p = apart (eq-eqb (number d) (number k) (ap number p)) e

-- a check that was passed, and the later ones with it
pub passed : (b : Bool) (d v : Decision) → refuses d ≡ true → unless b d v ≡ Granted → (b ≡ true) × (v ≡ Granted)
unfolding unless
passed true d v r e = (refl, e)
passed false d v r e = apart r (ap refuses e)

pub pass : (b : Bool) (d v : Decision) → b ≡ true → unless b d v ≡ v
unfolding unless
pass true d v e = refl
pass false d v e = clash (sym e)

pub stop : (b : Bool) (d v : Decision) → b ≡ false → unless b d v ≡ d
unfolding unless
stop true d v e = clash e
stop false d v e = refl

-- a list of checks that does not answer k
pub not-stop : (b : Bool) (d v k : Decision) → d ≢ k → v ≢ k → unless b d v ≢ k
unfolding unless
not-stop true d v k p q e = q e
not-stop false d v k p q e = p e

-- ---- tests at each index, at each element

pub below_out : (n : ℕ) (f : ℕ → Bool) → all_below n f ≡ true → (k : ℕ) → k < n → f k ≡ true
below_out zero f e k h = absurd (not-suc-le-zero h)
below_out (suc n) f e k h =
    ⊎_elim (λ w. ap f w ∙ and_right (all_below n f) (f n) e) (λ w. below_out n f (and_left (all_below n f) (f n) e) k w)
    (eq-or-lt_of_le (le_of_suc-le-suc h))

pub below_in : (n : ℕ) (f : ℕ → Bool) → ((k : ℕ) → k < n → f k ≡ true) → all_below n f ≡ true
below_in zero f h = refl
below_in (suc n) f h = and_both (below_in n f (λ k w. h k (omega arith))) (h n (omega arith))

-- a test that fails somewhere, said of the place
pub below_false : {P : Type 0} (n : ℕ) (f : ℕ → Bool) → all_below n f ≡ false → ((k : ℕ) → k < n → f k ≡ false → P) → P
below_false zero f e h = clash e
below_false (suc n) f e h =
    and-false (all_below n f) (f n) e (λ w. below_false n f w (λ k g. h k (omega arith))) (λ w. h n (omega arith) w)

-- at each index of a list, with a default that passes
pub all-out : {A : Type 0} (f : A → Bool) (d : A) (l : List A) → f d ≡ true → all_of f l ≡ true → (j : ℕ) → f (get_or l j d) ≡ true
all-out f d [] z e j = z
all-out f d (x ∷ xs) z e zero = and_left (f x) (all_of f xs) e
all-out f d (x ∷ xs) z e (suc j) = all-out f d xs z (and_right (f x) (all_of f xs) e) j

pub all_in : {A : Type 0} (f : A → Bool) (d : A) (l : List A) → ((j : ℕ) → f (get_or l j d) ≡ true) → all_of f l ≡ true
all_in f d [] h = refl
all_in f d (x ∷ xs) h = and_both (h zero) (all_in f d xs (λ j. h (suc j)))

pub all-false : {P : Type 0} {A : Type 0} (f : A → Bool) (d : A) (l : List A) → all_of f l ≡ false → ((j : ℕ) → j < length l → f (get_or l j d) ≡ false → P) → P
all-false f d [] e h = clash e
all-false f d (x ∷ xs) e h =
    and-false (f x) (all_of f xs) e (λ w. h 0 (omega arith) w) (λ w. all-false f d xs w (λ j g. h (suc j) (omega arith)))

pub all-at : {A : Type 0} (f : A → Bool) (d : A) (l : List A) → all_of f l ≡ true → (j : ℕ) → j < length l → f (get_or l j d) ≡ true
all-at f d [] e j h = absurd (not-suc-le-zero h)
all-at f d (x ∷ xs) e zero h = and_left (f x) (all_of f xs) e
all-at f d (x ∷ xs) e (suc j) h = all-at f d xs (and_right (f x) (all_of f xs) e) j (le_of_suc-le-suc h)

pub all-map-at : {A B : Type 0} (g : A → B) (f : B → Bool) (d : A) (l : List A) → ((i : ℕ) → f (g (get_or l i d)) ≡ true) → all_of f (map g l) ≡ true
all-map-at g f d [] h = refl
all-map-at g f d (x ∷ xs) h = and_both (h 0) (all-map-at g f d xs (λ i. h (suc i)))

-- ---- elements of lists

-- what holds of each element holds of each after a store of one of which it holds
pub set_all : {A : Type 0} (P : ℕ → A → Type 0) (l : List A) (i : ℕ) (v d : A) → ((j : ℕ) → P j (get_or l j d)) → P i v → (j : ℕ) → P j (get_or (set l i v) j d)
set_all P [] i v d h p j = h j
set_all P (x ∷ xs) zero v d h p zero = p
set_all P (x ∷ xs) zero v d h p (suc j) = h (suc j)
set_all P (x ∷ xs) (suc i) v d h p zero = h zero
set_all P (x ∷ xs) (suc i) v d h p (suc j) = set_all (λ k. P (suc k)) xs i v d (λ k. h (suc k)) p j

-- the same of two lists of one length, after a store to both at one place
pub set-two : {A B : Type 0} (P : ℕ → A → B → Type 0) (l : List A) (r : List B) → length l ≡ length r → (i : ℕ) (v d : A) (w e : B)
    → ((j : ℕ) → P j (get_or l j d) (get_or r j e)) → P i v w → (j : ℕ) → P j (get_or (set l i v) j d) (get_or (set r i w) j e)
set-two P [] [] n i v d w e h p j = h j
set-two P [] (y ∷ ys) n i v d w e h p j = absurd (omega arith)
set-two P (x ∷ xs) [] n i v d w e h p j = absurd (omega arith)
set-two P (x ∷ xs) (y ∷ ys) n zero v d w e h p zero = p
set-two P (x ∷ xs) (y ∷ ys) n zero v d w e h p (suc j) = h (suc j)
set-two P (x ∷ xs) (y ∷ ys) n (suc i) v d w e h p zero = h zero
set-two P (x ∷ xs) (y ∷ ys) n (suc i) v d w e h p (suc j) =
    set-two (λ k. P (suc k)) xs ys (omega arith) i v d w e (λ k. h (suc k)) p j

-- beyond a list's end stands the default
pub beyond : {A : Type 0} (l : List A) (j : ℕ) (d : A) → length l ≤ j → get_or l j d ≡ d
beyond l j d h = get_or-eq_default l d h

-- within a list the default does not matter: the code's default of a struct with arrays has empty ones
pub any-default : {A : Type 0} (l : List A) (i : ℕ) (d e : A) → i < length l → get_or l i d ≡ get_or l i e
any-default [] i d e h = absurd (not-suc-le-zero h)
any-default (x ∷ xs) zero d e h = refl
any-default (x ∷ xs) (suc i) d e h = any-default xs i d e (le_of_suc-le-suc h)

pub replicate-at : {A : Type 0} (d : A) (n j : ℕ) → get_or (replicate n d) j d ≡ d
replicate-at d zero j = refl
replicate-at d (suc n) zero = refl
replicate-at d (suc n) (suc j) = replicate-at d n j

-- what holds of each image and of the default holds at each index
pub map-all : {A B : Type 0} (P : B → Type 0) (f : A → B) (l : List A) (d : B) → ((x : A) → P (f x)) → P d → (j : ℕ) → P (get_or (map f l) j d)
map-all P f [] d h p j = p
map-all P f (x ∷ l) d h p zero = h x
map-all P f (x ∷ l) d h p (suc j) = map-all P f l d h p j

-- the length of an array of structs in a struct, as the logic has it
pub mapped-length : {A B : Type 0} (l : List A) (f : A → B) (n : ℕ) → length (map f l) ≡ n → length l ≡ n
mapped-length l f n e = sym (length-map l f) ∙ e

-- ---- numbers

pub le-or-lt : (a b : ℕ) → (a ≤ b) ⊎ (b < a)
le-or-lt a b = elim (dec_le a b) [ yes h ↦ inl h | no h ↦ inr (omega arith) ]

-- what holds at each index of a row of sixteen, and of what stands beyond it
pub row-all : (P : ℕ → ℕ → Type 0) (r : List ℕ) → length r ≡ 16 → ((j : ℕ) → j < 16 → P j (get_or r j 0)) → ((j : ℕ) → P j 0) → (j : ℕ) → P j (get_or r j 0)
row-all P r n h z j =
    ⊎_elim (λ (w : 16 ≤ j). subst (P j) (sym (beyond r j 0 (omega arith))) (z j)) (λ (w : j < 16). h j w) (le-or-lt 16 j)
