-- Laws of records of one length side by side: cut from a list, and joined to one.
-- Assumes nothing.
use Rattle.std.specs.Prelude.{◌≡◌, length, drop, get_or}
use Rattle.std.proofs.Math.Path.{refl, ap}
use Rattle.std.proofs.Common.{sym, ◌∙◌, not-suc-le-zero, le_of_suc-le-suc, zero-add, suc-add, add-one, length-drop, take-append-drop, take_at, drop-drop}
use Prim.Native.Nat.{ℕ, zero, suc, ◌+◌, ◌-◌, ◌*◌, ◌≤◌, ◌<◌, suc-le-suc}
use mathlib.Core.List.{List, [], ◌∷◌, ◌++◌, map, map-append}
use native.Mathlib.Omega.{arith}
use Rattle.std.proofs.Math.ListN.{take, length-append}
use Rattle.std.proofs.Math.Seq.{drop_at, take_all, take-nil, take-take, length-take-le}
use Rattle.bits.specs.Bits.{cut, join}

-- ---- a list cut into records

module _ {A : Type 0} where
  pub length_cut : (n w : ℕ) (b : List A) → length (cut n w b) ≡ n
  unfolding cut
  length_cut zero w b = refl
  length_cut (suc n) w b = ap suc (length_cut n w (drop w b))

  pub join-cut : (n w : ℕ) (b : List A) → length b ≡ n * w → join (cut n w b) ≡ b
  unfolding cut join
  join-cut zero w b h = take_all 0 b (omega arith)
  join-cut (suc n) w b h = rw (join-cut n w (drop w b) (length-drop w b ∙ omega arith)) (take-append-drop w b)

  -- the record at i
  pub cut_at : (n w : ℕ) (b : List A) (i : ℕ) (d : List A) → i < n → get_or (cut n w b) i d ≡ take w (drop (w * i) b)
  unfolding cut
  cut_at zero w b i d h = absurd (not-suc-le-zero h)
  cut_at (suc n) w b zero d h = let e : w * 0 ≡ 0 = omega arith in rw e
  cut_at (suc n) w b (suc i) d h =
      let e : w + w * i ≡ w * suc i = omega arith in
      cut_at n w (drop w b) i d (le_of_suc-le-suc h) ∙ rw (drop-drop (w * i) w b, e)

  pub cut-length : (n w : ℕ) (b : List A) → length b ≡ n * w → (i : ℕ) (d : List A) → i < n → length (get_or (cut n w b) i d) ≡ w
  unfolding cut
  cut-length zero w b e i d h = absurd (not-suc-le-zero h)
  cut-length (suc n) w b e zero d h = length-take-le w b (omega arith)
  cut-length (suc n) w b e (suc i) d h = cut-length n w (drop w b) (length-drop w b ∙ omega arith) i d (le_of_suc-le-suc h)

  -- one record more
  pub cut-suc : (n w : ℕ) (b : List A) → cut (suc n) w b ≡ cut n w b ++ (take w (drop (w * n) b) ∷ [])
  unfolding cut
  cut-suc zero w b = let e : w * 0 ≡ 0 = omega arith in rw e
  cut-suc (suc n) w b =
      let e : w + w * n ≡ w * suc n = omega arith in
      ap (λ (r : List (List A)). take w b ∷ r) (cut-suc n w (drop w b) ∙ rw (drop-drop (w * n) w b, e))

  pub cut-more : {B : Type 0} (f : List A → B) (n w : ℕ) (b : List A) → map f (cut (n + 1) w b) ≡ map f (cut n w b) ++ (f (take w (drop (w * n) b)) ∷ [])
  cut-more f n w b = rw (add-one n, cut-suc n w b) (map-append f (cut n w b) (take w (drop (w * n) b) ∷ []))

  drop-take : (i k : ℕ) (l : List A) → drop i (take (i + k) l) ≡ take k (drop i l)
  drop-take zero k l = rw (zero-add k)
  drop-take (suc i) k [] = rw (suc-add i k) (sym (take-nil k))
  drop-take (suc i) k (x ∷ l) = rw (suc-add i k) (drop-take i k l)

  -- what stands behind the records does not matter
  pub cut-take : (n w : ℕ) (b : List A) → cut n w (take (n * w) b) ≡ cut n w b
  unfolding cut
  cut-take zero w b = refl
  cut-take (suc n) w b =
      let e : suc n * w ≡ w + n * w = omega arith in
      rw (e, take-take w (w + n * w) b (omega arith), drop-take w (n * w) b, cut-take n w (drop w b))

  -- a field of a record
  pub field-record : (l : List A) (at n i w : ℕ) → i + w ≤ n → take w (drop i (take n (drop at l))) ≡ take w (drop (at + i) l)
  field-record l at n i w h =
      let e : n ≡ i + (n - i) = omega arith in
      ap (λ (k : ℕ). take w (drop i (take k (drop at l)))) e
      ∙ ap (take w) (drop-take i (n - i) (drop at l)) ∙ take-take w (n - i) (drop i (drop at l)) (omega arith) ∙ rw (drop-drop i at l)

-- ---- things with a record each, side by side

module _ {A B : Type 0} (f : A → List B) (w : ℕ) (d : A) where
  pub length-join : (xs : List A) → ((i : ℕ) → length (f (get_or xs i d)) ≡ w) → length (join (map f xs)) ≡ length xs * w
  unfolding join
  length-join [] h = omega arith
  length-join (x ∷ xs) h = length-append (f x) (join (map f xs)) ∙ omega (arith, h 0, length-join xs (λ i. h (suc i)))

  pub cut-join : (n : ℕ) (xs : List A) → length xs ≡ n → ((i : ℕ) → length (f (get_or xs i d)) ≡ w) → cut n w (join (map f xs)) ≡ map f xs
  unfolding cut join
  cut-join zero [] e h = refl
  cut-join zero (x ∷ xs) e h = absurd (omega arith)
  cut-join (suc n) [] e h = absurd (omega arith)
  cut-join (suc n) (x ∷ xs) e h =
      rw (take_at (f x) (join (map f xs)) w (h 0), drop_at (f x) (join (map f xs)) w (h 0), cut-join n xs (omega arith) (λ i. h (suc i)))

-- what is undone at each place is undone along the list
pub map_back : {A B : Type 0} (f : A → B) (g : B → A) (d : A) (xs : List A) → ((i : ℕ) → i < length xs → g (f (get_or xs i d)) ≡ get_or xs i d) → map g (map f xs) ≡ xs
map_back f g d [] h = refl
map_back f g d (x ∷ xs) h = let p : g (f x) ≡ x = h 0 (omega arith) in let q = map_back f g d xs (λ i l. h (suc i) (suc-le-suc l)) in λ i. p i ∷ q i
