-- A run, one turn longer: the rows and the replies.
-- Assumes nothing.
use Prim.Native.Nat.{ℕ, zero, suc, ◌+◌, ◌-◌, ◌*◌, ◌/◌, ◌<◌, ◌≤◌, min}
use native.Mathlib.Omega.{arith}
use native.Mathlib.Numerals.{add-one}
use mathlib.Core.Path.{◌≡◌, refl, sym, ap, ap₂, ◌∙◌}
use mathlib.Core.Logic.{⊎_elim}
use mathlib.Core.List.{List, [], ◌∷◌, ◌++◌}
use lib.ListN.{length, take, drop, get_or, set, length-drop}
use lib.Seq.{take_all}
use Rattle.bits.specs.Records.{length_cut, cut_at}
use Rattle.model.specs.Runs.{reply, after, replies}
use Rattle.model.specs.Program.{pieces}
use Rattle.model.proofs.Tests.{le-or-lt}
use Rattle.model.proofs.Lists.{replies-append, length-replies}
use Rattle.unit.specs.Rows.{Rows, row_count, state_in}
use Rattle.asking.specs.Asked.{asked, asked_all}
use Rattle.asking.proofs.Lists.{all_append, all-state}

-- one element more is taken
take_more : {A : Type 0} (i : ℕ) (l : List A) (d : A) → i < length l → take (suc i) l ≡ take i l ++ (get_or l i d ∷ [])
take_more i [] d h = absurd (omega arith)
take_more zero (x ∷ l) d h = refl
take_more (suc i) (x ∷ l) d h = ap (λ r. x ∷ r) (take_more i l d (omega arith))

-- a store at the first place behind a front
set_front : (front rest : List ℕ) (i v : ℕ) → length front ≡ i → i < length front + length rest → set (front ++ rest) i v ≡ (front ++ (v ∷ [])) ++ drop 1 rest
set_front [] [] i v e h = absurd (omega arith)
set_front [] (x ∷ rest) zero v e h = refl
set_front [] (x ∷ rest) (suc i) v e h = absurd (omega arith)
set_front (y ∷ front) rest zero v e h = absurd (omega arith)
set_front (y ∷ front) rest (suc i) v e h = ap (λ r. y ∷ r) (set_front front rest i v (omega arith) (omega arith))

drop_more : (i : ℕ) (l : List ℕ) → drop 1 (drop i l) ≡ drop (suc i) l
drop_more zero [] = refl
drop_more zero (x ∷ l) = refl
drop_more (suc i) [] = refl
drop_more (suc i) (x ∷ l) = drop_more i l

-- what a loop over the pieces has after i of them
pub record After (ps : List (List ℕ)) (out₀ : List ℕ) (u₀ : Rows) (out : List ℕ) (u : Rows) (i : ℕ) : Type 0 where
  pub left : u ≡ asked_all (take i ps) u₀
  pub written : out ≡ replies (take i ps) (state_in u₀) ++ drop i out₀

pub start : (ps : List (List ℕ)) (out : List ℕ) (u : Rows) → After ps out u out u 0
unfolding asked_all replies
start ps out u = record { left = refl; written = refl }

length_taken : {A : Type 0} (i : ℕ) (l : List A) → i ≤ length l → length (take i l) ≡ i
length_taken zero l h = refl
length_taken (suc i) [] h = absurd (omega arith)
length_taken (suc i) (x ∷ l) h = ap suc (length_taken i l (omega arith))

-- one turn more
pub further : (ps : List (List ℕ)) (out₀ : List ℕ) (u₀ : Rows) (out : List ℕ) (u : Rows) (i : ℕ) (b : List ℕ) (w : Rows) (r : ℕ) → length u₀ ≡ row_count
    → After ps out₀ u₀ out u i → i < length ps → i < length out₀ → get_or ps i [] ≡ b → w ≡ asked b u → r ≡ reply b (state_in u)
    → After ps out₀ u₀ (set out i r) w (i + 1)
unfolding asked_all replies
further ps out₀ u₀ out u i b w r n A h g e p q =
    let m = state_in u₀ in
    let more : take (i + 1) ps ≡ take i ps ++ (b ∷ []) = rw (add-one i) (take_more i ps [] h ∙ ap (λ c. take i ps ++ (c ∷ [])) e) in
    let size : length (replies (take i ps) m) ≡ i = length-replies (take i ps) m ∙ length_taken i ps (omega arith) in
    let says : state_in u ≡ after (take i ps) m = ap state_in A.left ∙ all-state (take i ps) u₀ n in
    record {
      left = p ∙ ap (asked b) A.left ∙ sym (all_append (take i ps) (b ∷ []) u₀) ∙ ap (λ l. asked_all l u₀) (sym more);
      written = ap (λ l. set l i r) A.written
          ∙ set_front (replies (take i ps) m) (drop i out₀) i r size (omega (arith, size, length-drop i out₀))
          ∙ ap₂ (λ (x y : List ℕ). x ++ y)
          (ap (λ v. replies (take i ps) m ++ (v ∷ [])) (q ∙ ap (reply b) says) ∙ sym (replies-append (take i ps) (b ∷ []) m) ∙ ap (λ l. replies l m) (sym more))
          (drop_more i out₀ ∙ ap (λ k. drop k out₀) (sym (add-one i)));
    }

pub length-pieces : (b : List ℕ) → length (pieces b) ≡ (length b + 5) / 6
unfolding pieces
length-pieces b = length_cut ((length b + 5) / 6) 6 b

-- the piece that the code takes: to the sixth byte, or to the end
pub piece-at : (b : List ℕ) (i : ℕ) → i < (length b + 5) / 6 → get_or (pieces b) i [] ≡ take (min (i * 6 + 6) (length b) - i * 6) (drop (i * 6) b)
unfolding pieces
piece-at b i h =
    let same : 6 * i ≡ i * 6 = omega arith in
    cut_at ((length b + 5) / 6) 6 b i [] h ∙ ap (λ k. take 6 (drop k b)) same
    ∙ ⊎_elim
    (λ (w : i * 6 + 6 ≤ length b). let e : 6 ≡ min (i * 6 + 6) (length b) - i * 6 = omega arith in ap (λ k. take k (drop (i * 6) b)) e)
    (λ (w : length b < i * 6 + 6).
    let e : min (i * 6 + 6) (length b) - i * 6 ≡ length b - i * 6 = omega arith in
    let l : length (drop (i * 6) b) ≡ length b - i * 6 = length-drop (i * 6) b in
    take_all 6 (drop (i * 6) b) (omega (arith, l)) ∙ sym (take_all (min (i * 6 + 6) (length b) - i * 6) (drop (i * 6) b) (omega (arith, l, e))))
    (le-or-lt (i * 6 + 6) (length b))

-- what holds at the head of the loop over the pieces
pub record Looping (requests out₀ : List ℕ) (u₀ : Rows) (count : ℕ) (out : List ℕ) (u : Rows) (i : ℕ) : Type 0 where
  pub bound : i ≤ count
  pub counted : count ≡ min ((length requests + 5) / 6) (length out₀)
  pub so_far : After (pieces requests) out₀ u₀ out u i

-- as many pieces as were counted are those that have room
pub taken : {A : Type 0} (l : List A) (room : ℕ) → take (min (length l) room) l ≡ take room l
taken [] zero = refl
taken [] (suc room) = let e : min 0 (suc room) ≡ 0 = omega arith in rw e
taken (x ∷ l) zero = let e : min (suc (length l)) 0 ≡ 0 = omega arith in rw e
taken (x ∷ l) (suc room) = let e : min (suc (length l)) (suc room) ≡ suc (min (length l) room) = omega arith in rw e (ap (λ r. x ∷ r) (taken l room))

pub ended : (requests out₀ : List ℕ) (u₀ : Rows) (count : ℕ) (out : List ℕ) (u : Rows) (i : ℕ) → Looping requests out₀ u₀ count out u i → count ≤ i
    → (u ≡ asked_all (take (length out₀) (pieces requests)) u₀)
    × (out ≡ replies (take (length out₀) (pieces requests)) (state_in u₀) ++ drop (length (take (length out₀) (pieces requests))) out₀)
ended requests out₀ u₀ count out u i L h =
    let l : length (pieces requests) ≡ (length requests + 5) / 6 = length-pieces requests in
    let all : i ≡ min (length (pieces requests)) (length out₀) = omega (arith, L.bound, L.counted, l) in
    let same : take i (pieces requests) ≡ take (length out₀) (pieces requests) = ap (λ k. take k (pieces requests)) all ∙ taken (pieces requests) (length out₀) in
    let size : length (take (length out₀) (pieces requests)) ≡ i = ap length (sym same) ∙ length_taken i (pieces requests) (omega arith) in
    (L.so_far.left ∙ ap (λ k. asked_all k u₀) same, L.so_far.written ∙ ap₂ (λ k j. replies k (state_in u₀) ++ drop j out₀) same (sym size))
