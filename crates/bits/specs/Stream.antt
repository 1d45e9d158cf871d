-- Bits that are appended to a buffer one field after the other: what a stream holds, and what one append makes of it.
-- Assumes nothing.
use Rattle.std.specs.Prelude.{◌≡◌, ℕ, zero, suc, ◌+◌, ◌-◌, ◌*◌, ◌/◌, ◌%◌, ◌^◌, ◌≤◌, ◌<◌, Bool, cond, leb, length, take, drop, get_or, set}
use Rattle.std.proofs.Math.Path.{refl, ap₂}
use Rattle.std.proofs.Common.{sym, ap, ◌∙◌, subst, mod-lt, add-one, pow_pos, length-append, take-append-drop, take-suc-set, drop-set-lt, drop-drop, length-take-le}
use Rattle.std.proofs.Math.Bool.{true, false}
use mathlib.Core.List.{List, [], ◌∷◌, ◌++◌, append_assoc, append-nil}
use native.Mathlib.Omega.{arith}
use borrow.Author.Tests.{leb-true, leb-false, le-leb, lt-leb}
use Rattle.std.proofs.Math.ListN.{length-set}
use Rattle.bits.specs.Bits.{to_bits, bytes_to_bits, bits_to_bytes, Bytes, joined, waiting, stored}
use Rattle.bits.specs.Laws.{length-to_bits, to_bits-split, to_bits-join, to_bits-low, to_bits-mod, bytes_to_bits-append, bits_to_bytes-bytes_to_bits}

-- the bits of a stream: those of the whole bytes before bit at, and the at % 8 low bits of what waits to be stored
unfoldable pub written : List ℕ → ℕ → ℕ → List Bool
written s at acc = bytes_to_bits (take (at / 8) s) ++ to_bits (at % 8) acc

-- the stream s at bit at, with new behind it, is the stream t at bit to; no byte behind it has changed
pub record Appends (s : List ℕ) (at acc : ℕ) (new : List Bool) (t : List ℕ) (to rest : ℕ) : Type 0 where
  pub bits : written t to rest ≡ written s at acc ++ new
  pub moves : to ≡ at + length new
  pub stays : drop (to / 8) t ≡ drop (to / 8) s
  pub size : length t ≡ length s
  pub small : rest < 256

-- ---- one append

-- a store in one of two branches keeps the length
length-cond : (b : Bool) (s : List ℕ) (k v : ℕ) → length (cond b (set s k v) s) ≡ length s
length-cond true s k v = length-set s k v
length-cond false s k v = refl

module _ (s : List ℕ) (at acc w x : ℕ) where
  -- a byte is full
  pub stored-full : 8 ≤ at % 8 + w → stored s at acc w x ≡ set s (at / 8) (joined acc w x / 2 ^ (at % 8 + w - 8) % 256)
  unfolding stored
  stored-full h = rw (le-leb 8 (at % 8 + w) h)

  -- no byte is full yet
  pub stored-wait : at % 8 + w < 8 → stored s at acc w x ≡ s
  unfolding stored
  stored-wait h = rw (lt-leb 8 (at % 8 + w) h)

  pub length-stored : length (stored s at acc w x) ≡ length s
  unfolding stored
  length-stored = length-cond (leb 8 (at % 8 + w)) s (at / 8) (joined acc w x / 2 ^ (at % 8 + w - 8) % 256)

-- a byte more
bits-set : (s : List ℕ) (k b : ℕ) → k < length s → bytes_to_bits (take (k + 1) (set s k b)) ≡ bytes_to_bits (take k s) ++ to_bits 8 b
unfolding bytes_to_bits
bits-set s k b h =
    rw (add-one k, take-suc-set s k b h) (bytes_to_bits-append (take k s) (b ∷ []) ∙ rw (append-nil (to_bits 8 b)))

module _ (s : List ℕ) (at acc w x : ℕ) (hw : w ≤ 8) (h : at + w ≤ 8 * length s) where
  -- the waiting bits with new ones behind them
  bits-joined : to_bits (at % 8 + w) (joined acc w x) ≡ to_bits (at % 8) acc ++ to_bits w x
  unfolding joined
  bits-joined =
      to_bits-join (at % 8) w (acc % 256) {r = x % 2 ^ w} (mod-lt x (pow_pos w))
      ∙ ap₂ (λ (a b : List Bool). a ++ b) (to_bits-low (at % 8) 8 acc (omega arith)) (to_bits-mod w x)

  appends-when : (full : Bool) → leb 8 (at % 8 + w) ≡ full
      → Appends s at acc (to_bits w x) (cond full (set s (at / 8) (joined acc w x / 2 ^ (at % 8 + w - 8) % 256)) s) (at + w) (waiting acc w x)
  unfolding written waiting
  appends-when false e =
      let v = joined acc w x in
      let l : at % 8 + w < 8 = leb-false 8 (at % 8 + w) e in
      let k : (at + w) / 8 ≡ at / 8 = omega arith in
      let n : (at + w) % 8 ≡ at % 8 + w = omega arith in
      record {
        bits = rw (k, n, to_bits-low (at % 8 + w) 8 v (omega arith), bits-joined) (sym (append_assoc (bytes_to_bits (take (at / 8) s)) (to_bits (at % 8) acc) (to_bits w x)));
        moves = rw (length-to_bits w x);
        stays = refl;
        size = refl;
        small = omega arith;
      }
  appends-when true e =
      let v = joined acc w x in
      let l : 8 ≤ at % 8 + w = leb-true 8 (at % 8 + w) e in
      let j = at % 8 + w - 8 in
      let k : (at + w) / 8 ≡ at / 8 + 1 = omega arith in
      let n : (at + w) % 8 ≡ j = omega arith in
      let sum : 8 + j ≡ at % 8 + w = omega arith in
      let p = bytes_to_bits (take (at / 8) s) in
      record {
        bits = rw (
          k,
          n,
          bits-set s (at / 8) (v / 2 ^ j % 256) (omega arith),
          to_bits-low j 8 v (omega arith),
          to_bits-mod 8 (v / 2 ^ j),
          append_assoc p (to_bits 8 (v / 2 ^ j)) (to_bits j v),
          ← to_bits-split 8 j v,
          sum,
          bits-joined,
        ) (sym (append_assoc p (to_bits (at % 8) acc) (to_bits w x)));
        moves = rw (length-to_bits w x);
        stays = rw k (drop-set-lt (at / 8 + 1) s (at / 8) (v / 2 ^ j % 256) (omega arith));
        size = length-set s (at / 8) (v / 2 ^ j % 256);
        small = omega arith;
      }

  -- what the stored buffer and the waiting bits are to the stream
  pub appends : Appends s at acc (to_bits w x) (stored s at acc w x) (at + w) (waiting acc w x)
  unfolding stored
  appends = appends-when (leb 8 (at % 8 + w)) refl

-- ---- one append after the other

-- nothing behind a stream
pub stay : (s : List ℕ) (at acc : ℕ) → acc < 256 → Appends s at acc [] s at acc
stay s at acc h = record { bits = sym (append-nil (written s at acc)); moves = omega arith; stays = refl; size = refl; small = h }

-- one after the other
pub next : {s t u : List ℕ} {at acc to rest from end last : ℕ} (a b : List Bool) → to ≡ from → Appends s at acc a t to rest → Appends t from rest b u end last
    → Appends s at acc (a ++ b) u end last
next {s} {t} {u} {at} {acc} {to} {rest} {from} {end} {last} a b e A B =
    let k : end / 8 ≡ to / 8 + (end / 8 - to / 8) = omega (arith, B.moves) in
    let same : drop (end / 8) t ≡ drop (end / 8) s =
    ap (λ (n : ℕ). drop n t) k ∙ sym (drop-drop (end / 8 - to / 8) (to / 8) t) ∙ ap (drop (end / 8 - to / 8)) A.stays
    ∙ drop-drop (end / 8 - to / 8) (to / 8) s ∙ ap (λ (n : ℕ). drop n s) (sym k) in
    record {
      bits = B.bits ∙ ap (λ (n : ℕ). written t n rest ++ b) (sym e) ∙ rw A.bits (append_assoc (written s at acc) a b);
      moves = B.moves ∙ omega (arith, A.moves, length-append a b);
      stays = B.stays ∙ same;
      size = B.size ∙ A.size;
      small = B.small;
    }

-- the same bits, the same place
pub ends : {s t : List ℕ} {at acc to rest there : ℕ} (a b : List Bool) → a ≡ b → to ≡ there → Appends s at acc a t to rest → Appends s at acc b t there rest
ends {s} {t} {at} {acc} {to} {rest} {there} a b e p A =
    subst (λ (n : List Bool). Appends s at acc n t there rest) e (subst (λ (n : ℕ). Appends s at acc a t n rest) p A)

bytes_take : (n : ℕ) (t : List ℕ) → Bytes t → Bytes (take n t)
bytes_take zero t h i = omega arith
bytes_take (suc n) [] h i = h i
bytes_take (suc n) (x ∷ t) h zero = h 0
bytes_take (suc n) (x ∷ t) h (suc i) = bytes_take n t (λ j. h (suc j)) i

-- from nothing: the first bytes are those of the bits, the others stay
pub whole : (n : ℕ) (s t : List ℕ) (b : List Bool) (rest : ℕ) → Bytes t → n ≤ length s → Appends s 0 0 b t (8 * n) rest → t ≡ bits_to_bytes n b ++ drop n s
unfolding written to_bits bytes_to_bits
whole n s t b rest ht hn A =
    let k : 8 * n / 8 ≡ n = omega arith in
    let z : 8 * n % 8 ≡ 0 = omega arith in
    let front : bytes_to_bits (take n t) ≡ b =
    sym (append-nil (bytes_to_bits (take n t)))
    ∙ ap₂ (λ (i j : ℕ). bytes_to_bits (take i t) ++ to_bits j rest) (sym k) (sym z) ∙ A.bits in
    let bytes : (i : ℕ) → get_or (take n t) i 0 < 256 = bytes_take n t ht in
    let first : take n t ≡ bits_to_bytes n b =
    sym (bits_to_bytes-bytes_to_bits n (take n t) bytes (length-take-le n t (omega (arith, A.size)))) ∙ ap (bits_to_bytes n) front in
    let back : drop n t ≡ drop n s = subst (λ (i : ℕ). drop i t ≡ drop i s) k A.stays in
    sym (take-append-drop n t) ∙ ap₂ (λ (x y : List ℕ). x ++ y) first back
