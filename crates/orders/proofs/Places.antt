-- Elements of a list by their places: what holds of each, and orders that begin with those at one or two places.
-- Assumes nothing.
use Prim.Native.Nat.{ℕ, zero, suc, ◌<◌}
use native.Mathlib.Nat.{le_of_suc-le-suc, not-suc-le-zero}
use native.Mathlib.Omega.{arith}
use mathlib.Core.Path.{refl, sym, subst}
use mathlib.Core.Logic.{inl, inr}
use mathlib.Core.List.Permᴰ
use mathlib.Core.List.{List, [], ◌∷◌}
use lib.ListN.{length, get_or}
use Rattle.orders.specs.Orders.{OrderOf, Each, OneOf, StandsIn}

-- what holds of each element holds of each in every order
pub each-order : {A : Type 0} (P : A → Type 0) {xs ys : List A} → OrderOf xs ys → Each P xs → Each P ys
each-order P Permᴰ.nil p = p
each-order P (Permᴰ.cons e d) p = (subst P e p.0, each-order P d p.1)
each-order P (Permᴰ.swap e f) p = (subst P f p.1.0, (subst P e p.0, p.1.1))
each-order P (Permᴰ.trans d k) p = each-order P k (each-order P d p)

-- and so does what follows from it
pub each_map : {A : Type 0} {P Q : A → Type 0} → ((x : A) → P x → Q x) → (xs : List A) → Each P xs → Each Q xs
each_map f [] p = tt
each_map f (x ∷ xs) p = (f x p.0, each_map f xs p.1)

-- what holds of some element holds of some in every order
pub some-order : {A : Type 0} (P : A → Type 0) {xs ys : List A} → OrderOf xs ys → OneOf P xs → OneOf P ys
some-order P Permᴰ.nil q = q
some-order P (Permᴰ.cons e d) (inl q) = inl (subst P e q)
some-order P (Permᴰ.cons e d) (inr q) = inr (some-order P d q)
some-order P (Permᴰ.swap e f) (inl q) = inr (inl (subst P e q))
some-order P (Permᴰ.swap e f) (inr (inl q)) = inl (subst P f q)
some-order P (Permᴰ.swap e f) (inr (inr q)) = inr (inr q)
some-order P (Permᴰ.trans d k) q = some-order P k (some-order P d q)

-- what follows for one element of which both are so
pub some_out : {A B : Type 0} {P Q : A → Type 0} → ((x : A) → P x → Q x → B) → (xs : List A) → Each P xs → OneOf Q xs → B
some_out f [] p q = absurd q
some_out f (x ∷ xs) p (inl q) = f x p.0 q
some_out f (x ∷ xs) p (inr q) = some_out f xs p.1 q

-- an element that stands in a list: what holds of each holds of it, and what holds of it holds of some
pub each_of : {A : Type 0} (P : A → Type 0) {x : A} (xs : List A) → Each P xs → StandsIn x xs → P x
each_of P xs p = some_out (λ y q e. subst P e q) xs p

pub some_of : {A : Type 0} (P : A → Type 0) {x : A} (xs : List A) → StandsIn x xs → P x → OneOf P xs
some_of P [] q p = q
some_of P (y ∷ ys) (inl e) p = inl (subst P (sym e) p)
some_of P (y ∷ ys) (inr q) p = inr (some_of P ys q p)

-- each element of a list stands in every longer one
stands-behind : {A : Type 0} (y : A) (xs zs : List A) → Each (λ x. StandsIn x zs) xs → Each (λ x. StandsIn x (y ∷ zs)) xs
stands-behind y xs zs = each_map (λ x q. inr q) xs

pub each_stands : {A : Type 0} (xs : List A) → Each (λ x. StandsIn x xs) xs
each_stands [] = tt
each_stands (x ∷ xs) = (inl refl, stands-behind x xs xs (each_stands xs))

module _ {A : Type 0} (d : A) where
  pub each_at : (P : A → Type 0) (xs : List A) → Each P xs → (i : ℕ) → i < length xs → P (get_or xs i d)
  each_at P [] p i h = absurd (not-suc-le-zero h)
  each_at P (x ∷ xs) p zero h = p.0
  each_at P (x ∷ xs) p (suc i) h = each_at P xs p.1 i (le_of_suc-le-suc h)

  pub each_in : (P : A → Type 0) (xs : List A) → ((i : ℕ) → i < length xs → P (get_or xs i d)) → Each P xs
  each_in P [] h = tt
  each_in P (x ∷ xs) h = (h 0 (omega arith), each_in P xs (λ i w. h (suc i) (omega arith)))

  -- an order that begins with the element at a place
  pub begin-at : (xs : List A) (j : ℕ) → j < length xs → (rest : List A) × OrderOf xs (get_or xs j d ∷ rest)
  begin-at [] j h = absurd (not-suc-le-zero h)
  begin-at (x ∷ xs) zero h = (xs, Permᴰ.refl (x ∷ xs))
  begin-at (x ∷ xs) (suc j) h =
      let r = begin-at xs j (le_of_suc-le-suc h) in
      (x ∷ r.0, Permᴰ.trans (Permᴰ.cons refl r.1) (Permᴰ.swap refl refl))

  -- and one that begins with those at two places
  pub begin-at-two : (xs : List A) (i j : ℕ) → i < j → j < length xs → (rest : List A) × OrderOf xs (get_or xs i d ∷ get_or xs j d ∷ rest)
  begin-at-two [] i j w h = absurd (not-suc-le-zero h)
  begin-at-two (x ∷ xs) i zero w h = absurd (not-suc-le-zero w)
  begin-at-two (x ∷ xs) zero (suc j) w h =
      let r = begin-at xs j (le_of_suc-le-suc h) in
      (r.0, Permᴰ.cons refl r.1)
  begin-at-two (x ∷ xs) (suc i) (suc j) w h =
      let r = begin-at-two xs i j (le_of_suc-le-suc w) (le_of_suc-le-suc h) in
      (x ∷ r.0, Permᴰ.trans (Permᴰ.cons refl r.1) (Permᴰ.trans (Permᴰ.swap refl refl) (Permᴰ.cons refl (Permᴰ.swap refl refl))))
