-- Lines put one behind the other.
-- Assumes nothing.
use Prim.Native.Nat.{ℕ, zero, suc, ◌+◌, ◌*◌, ◌<◌, ◌≤◌}
use native.Mathlib.Omega.{arith}
use mathlib.Core.Path.{◌≡◌, refl, sym, ap, ◌∙◌}
use mathlib.Core.List.{List, [], ◌∷◌, ◌++◌, append_assoc, append-nil, map}
use lib.ListN.{length, take, set, get_or, length-append}
use lib.Dec.{ltb}
use borrow.Author.Tests.{lt-ltb, le-ltb}
use Rattle.bits.specs.Bits.{join}
use Rattle.model.specs.Buffers.{put, digit, two_digits}
use Rattle.model.specs.Program.{line}
use Rattle.model.proofs.Tests.{cond-true, cond-false, cond-all}
use Rattle.model.proofs.Buffers.{put-none, put_byte, put_next, put-more, length-put}

-- the two forms of a line: one digit or two, and the newline
pub short-line : (s : List ℕ) (at n : ℕ) → n < 10 → at + 2 ≤ length s
    → (set (set s at (digit n)) (at + 1) 10 ≡ put s at (line n)) × (at + 2 ≡ at + length (line n))
unfolding line
short-line s at n h g =
    let e : line n ≡ digit n ∷ 10 ∷ [] = cond-true (ltb n 10) _ _ (lt-ltb n 10 h) in (
      ap (λ l. set l (at + 1) 10) (put_byte s at (digit n) (omega arith)) ∙ put_next s at (digit n ∷ []) (at + 1) 10 refl (omega arith) ∙ ap (put s at) (sym e),
      ap (λ l. at + length l) (sym e),
    )

pub long-line : (s u : List ℕ) (at n : ℕ) → 10 ≤ n → at + 3 ≤ length s → u ≡ put s at (two_digits n)
    → (set u (at + 2) 10 ≡ put s at (line n)) × (at + 3 ≡ at + length (line n))
unfolding line
long-line s u at n h g f =
    let e : line n ≡ two_digits n ++ (10 ∷ []) = cond-false (ltb n 10) _ _ (le-ltb n 10 h) in (
      ap (λ l. set l (at + 2) 10) f ∙ put_next s at (two_digits n) (at + 2) 10 refl (omega arith) ∙ ap (put s at) (sym e),
      ap (λ l. at + length l) (sym e),
    )

-- a line has at most three bytes
pub line-short : (n : ℕ) → length (line n) ≤ 3
unfolding line
line-short n = cond-all (λ (l : List ℕ). length l ≤ 3) (ltb n 10) _ _ (λ e. omega arith) (λ e. omega arith)

-- one line more
join_more : (i : ℕ) (l : List ℕ) → i < length l → join (map line (take (i + 1) l)) ≡ join (map line (take i l)) ++ line (get_or l i 0)
unfolding join
join_more i [] h = absurd (omega arith)
join_more zero (x ∷ l) h = append-nil (line x)
join_more (suc i) (x ∷ l) h =
    let e : suc i + 1 ≡ suc (i + 1) = omega arith in
    rw e (ap (λ r. line x ++ r) (join_more i l (omega arith)) ∙ sym (append_assoc (line x) (join (map line (take i l))) (line (get_or l i 0))))

-- what holds at the head of the loop over the numbers
pub record Lining (out₀ numbers out : List ℕ) (at i : ℕ) : Type 0 where
  pub bound : i ≤ length numbers
  pub short : at ≤ 3 * i
  pub written : out ≡ put out₀ 0 (join (map line (take i numbers)))
  pub place : at ≡ length (join (map line (take i numbers)))
  pub size : length out ≡ length out₀

pub lining-start : (out numbers : List ℕ) → Lining out numbers out 0 0
unfolding join
lining-start out numbers = record { bound = omega arith; short = omega arith; written = put-none out 0; place = refl; size = refl }

pub lining-more : (out₀ numbers out : List ℕ) (at i : ℕ) (next : List ℕ) (to : ℕ) → Lining out₀ numbers out at i
    → i < length numbers → 3 * length numbers ≤ length out₀ → next ≡ put out at (line (get_or numbers i 0)) → to ≡ at + length (line (get_or numbers i 0))
    → Lining out₀ numbers next to (i + 1)
lining-more out₀ numbers out at i next to L h k e f =
    let n = get_or numbers i 0 in
    let front = join (map line (take i numbers)) in
    let more = join_more i numbers h in
    record {
      bound = omega arith;
      short = omega (arith, L.short, f, line-short n);
      written = e ∙ ap (λ l. put l at (line n)) L.written ∙ put-more out₀ 0 front (line n) at (L.place ∙ (let z : length front ≡ 0 + length front = omega arith in z)) (omega arith) ∙ ap (put out₀ 0) (sym more);
      place = f ∙ ap (λ a. a + length (line n)) L.place ∙ sym (length-append front (line n)) ∙ ap length (sym more);
      size = ap length e ∙ length-put out at (line n) (omega (arith, L.short, L.size, line-short n, h, k)) ∙ L.size;
    }

-- lines have at most three bytes each
pub lines-short : (l : List ℕ) → length (join (map line l)) ≤ 3 * length l
unfolding join
lines-short [] = omega arith
lines-short (x ∷ l) = omega (arith, length-append (line x) (join (map line l)), line-short x, lines-short l)
