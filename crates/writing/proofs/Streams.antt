-- What is appended: one record more, all records, an image.
-- Assumes nothing.
use mathlib.Core.Path.{◌≡◌, refl, sym, ap, ◌∙◌, subst}
use mathlib.Core.Bool.{Bool}
use mathlib.Core.List.{List, [], ◌∷◌, ◌++◌, append_assoc, append-nil, map}
use Prim.Native.Nat.{ℕ, zero, suc, ◌+◌, ◌*◌, ◌≤◌, ◌<◌}
use native.Mathlib.Nat.{not-suc-le-zero, le_of_suc-le-suc}
use native.Mathlib.Numerals.{add-one}
use native.Mathlib.Omega.{arith}
use lib.ListN.{length, take, get_or}
use lib.Seq.{take_all}
use Rattle.std.specs.Prelude.{Ok}
use Rattle.bits.specs.Bits.{Bytes, join}
use Rattle.bits.specs.Stream.{Appends, ends, whole}
use Rattle.model.specs.declared.Monitor.{Monitor}
use Rattle.model.specs.Decisions.{checked}
use Rattle.model.specs.Layout.{image_size, image_bits, image_of}
use Rattle.model.specs.Writing.{writing, written}
use Rattle.model.proofs.Buffers.{writing-done}

-- one record more
join-suc : {A : Type 0} (f : A → List Bool) (i : ℕ) (xs : List A) (d : A) → i < length xs
    → join (map f (take i xs)) ++ f (get_or xs i d) ≡ join (map f (take (suc i) xs))
unfolding join
join-suc f i [] d h = absurd (not-suc-le-zero h)
join-suc f zero (x ∷ xs) d h = sym (append-nil (f x))
join-suc f (suc i) (x ∷ xs) d h = append_assoc (f x) (join (map f (take i xs))) (f (get_or xs i d)) ∙ rw (join-suc f i xs d (le_of_suc-le-suc h))

pub join_more : {A : Type 0} (f : A → List Bool) (i : ℕ) (xs : List A) (d : A) → i < length xs
    → join (map f (take i xs)) ++ f (get_or xs i d) ≡ join (map f (take (i + 1) xs))
join_more f i xs d h = rw (add-one i) (join-suc f i xs d h)

-- all records
pub join-all : {A : Type 0} (f : A → List Bool) (i n : ℕ) (xs : List A) → i ≡ n → length xs ≡ n → join (map f (take i xs)) ≡ join (map f xs)
join-all f i n xs e l = ap (λ (k : ℕ). join (map f (take k xs))) e ∙ ap (λ (ys : List _). join (map f ys)) (take_all n xs (omega arith))

pub no-records : [] ≡ join {A = Bool} []
unfolding join
no-records = refl

-- a whole image, written to the front of a buffer that had room
pub image-written : (m : Monitor) (s f t last : List ℕ) (at acc to rest : ℕ) → (f ≡ s) × (at ≡ 0) × (acc ≡ 0) → image_size ≤ length s → to ≡ 8 * image_size
    → Appends f at acc (image_bits m) t to rest → last ≡ t → Bytes last → (Ok tt ≡ checked (writing s)) × (last ≡ written m s)
unfolding image_of checked
image-written m s f t last at acc to rest begun room end A e hb =
    let B : Appends s 0 0 (image_bits m) t to rest = rw (begun.0, begun.1, begun.2) at A in
    let bytes : Bytes t = subst Bytes e hb in
    let done = writing-done m s last room (e ∙ whole image_size s t (image_bits m) rest bytes room (ends _ _ refl end B)) in
    (ap checked done.0, done.1)
