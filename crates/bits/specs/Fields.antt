-- Laws of a field of bits in bytes: past the end, inside, side by side, one in another, at a byte.
-- Assumes nothing.
use Rattle.std.specs.Prelude.{◌≡◌, ℕ, zero, suc, ◌+◌, ◌-◌, ◌*◌, ◌/◌, ◌%◌, ◌^◌, ◌≤◌, ◌<◌, Bool, false, List, [], ◌∷◌, ◌++◌, length, take, drop, get_or, replicate}
use Rattle.std.proofs.Common.{sym, ap, ◌∙◌, append_assoc, append-nil, add_comm, zero-add, arith, length-append, length-drop, drop_at, length-take-le, drop-drop, take-add, take_all}
use Rattle.std.proofs.Math.Pow.{high, low}
use Rattle.std.proofs.lemmas.List.{length-replicate, replicate-append-replicate, take-append-le, drop-append-le}
use Rattle.bits.specs.Bits.{to_bits, from_bits, bytes_to_bits, field}
use Rattle.bits.specs.Laws.{length-to_bits, from_bits-to_bits-mod, from_bits-take, from_bits-append, from_bits-zeros, to_bits-from_bits-at, length-bytes_to_bits}

-- ---- bits past the end

-- what stands after a field does not matter
field-front : (p r : List Bool) (at w : ℕ) → at + w ≤ length p → take w (drop at (p ++ r)) ≡ take w (drop at p)
field-front p r at w h =
    rw (drop-append-le at p r (omega arith), take-append-le w (drop at p) r (rw (length-drop at p) (omega arith)))

-- the bits of bytes with m zeros behind them
padded : List ℕ → ℕ → List Bool
padded s m = bytes_to_bits s ++ replicate m false

length-padded : (s : List ℕ) (m : ℕ) → length (padded s m) ≡ 8 * length s + m
unfolding padded
length-padded s m = rw (length-append, length-bytes_to_bits s, length-replicate)

padded-more : (s : List ℕ) (m n : ℕ) → padded s m ++ replicate n false ≡ padded s (m + n)
unfolding padded
padded-more s m n = rw (append_assoc, replicate-append-replicate m n false)

-- how many zeros stand behind the bytes does not matter where there are enough
enough : (s : List ℕ) (m n at w : ℕ) → at + w ≤ 8 * length s + m → at + w ≤ 8 * length s + n → take w (drop at (padded s m)) ≡ take w (drop at (padded s n))
enough s m n at w hm hn =
    sym (field-front (padded s m) (replicate n false) at w (rw (length-padded s m) hm))
    ∙ ap (λ (l : List Bool). take w (drop at l)) (padded-more s m n ∙ ap (padded s) (add_comm m n) ∙ sym (padded-more s n m))
    ∙ field-front (padded s n) (replicate m false) at w (rw (length-padded s n) hn)

field-padded : (s : List ℕ) (m at w : ℕ) → at + w ≤ 8 * length s + m → field s at w ≡ from_bits (take w (drop at (padded s m)))
unfolding field padded
field-padded s m at w h = ap from_bits (enough s (at + w) m at w (omega arith) h)

-- a field inside the bytes
pub field-within : (s : List ℕ) (at w : ℕ) → at + w ≤ 8 * length s → field s at w ≡ from_bits (take w (drop at (bytes_to_bits s)))
unfolding padded
field-within s at w h =
    field-padded s 0 at w (omega arith) ∙ ap (λ (l : List Bool). from_bits (take w (drop at l))) (append-nil (bytes_to_bits s))

pub field_lt : (s : List ℕ) (at w : ℕ) → field s at w < 2 ^ w
unfolding field
field_lt s at w = from_bits-take w (drop at (bytes_to_bits s ++ replicate (at + w) false))

-- the bits of a field
pub to_bits-field : (s : List ℕ) (at w : ℕ) → at + w ≤ 8 * length s → to_bits w (field s at w) ≡ take w (drop at (bytes_to_bits s))
to_bits-field s at w h =
    rw (field-within s at w h)
    (to_bits-from_bits-at w (take w (drop at (bytes_to_bits s))) (length-take-le w (drop at (bytes_to_bits s)) (rw (length-drop at (bytes_to_bits s), length-bytes_to_bits s) (omega arith))))

-- ---- one field in another

-- two fields side by side
pub field-add : (s : List ℕ) (at v w : ℕ) → field s at (v + w) ≡ field s at v * 2 ^ w + field s (at + v) w
field-add s at v w =
    let p = padded s (at + (v + w)) in
    let upper = take v (drop at p) in
    let lower = take w (drop (at + v) p) in
    let l : length lower ≡ w = length-take-le w (drop (at + v) p) (rw (length-drop (at + v) p, length-padded s (at + (v + w))) (omega arith)) in
    field-padded s (at + (v + w)) at (v + w) (omega arith)
    ∙ ap from_bits (take-add v w (drop at p) ∙ ap (λ (r : List Bool). upper ++ take w r) (drop-drop v at p))
    ∙ from_bits-append upper lower
    ∙ rw (l, field-padded s (at + (v + w)) at v (omega arith), field-padded s (at + (v + w)) (at + v) w (omega arith))

-- a field inside a longer one
pub field-part : (s : List ℕ) (at n off w : ℕ) → off + w ≤ n → field s (at + off) w ≡ field s at n / 2 ^ (n - off - w) % 2 ^ w
field-part s at n off w h =
    let k = n - off - w in
    let e : n ≡ off + w + k = omega arith in
    let v : field s at n ≡ (field s at off * 2 ^ w + field s (at + off) w) * 2 ^ k + field s (at + (off + w)) k =
    ap (field s at) e ∙ field-add s at (off + w) k ∙ rw (field-add s at off w) in
    rw (v, high (field s at off * 2 ^ w + field s (at + off) w) k (field_lt s (at + (off + w)) k)) (sym (low (field s at off) w (field_lt s (at + off) w)))

-- a field inside a longer one that starts at bit 0
pub field-of-field : (s : List ℕ) (n at w : ℕ) → at + w ≤ n → field s at w ≡ field s 0 n / 2 ^ (n - at - w) % 2 ^ w
field-of-field s n at w h = ap (λ (k : ℕ). field s k w) (sym (zero-add at)) ∙ field-part s 0 n at w h

-- a field in the n bits from the start of its first byte on
pub field-from-byte : (s : List ℕ) (n at w : ℕ) → at % 8 + w ≤ n → field s at w ≡ field s (8 * (at / 8)) n / 2 ^ (n - at % 8 - w) % 2 ^ w
field-from-byte s n at w h = let e : at ≡ 8 * (at / 8) + at % 8 = omega arith in ap (λ (k : ℕ). field s k w) e ∙ field-part s (8 * (at / 8)) n (at % 8) w h

-- ---- a byte

field-nil : (at w : ℕ) → field [] at w ≡ 0
unfolding field bytes_to_bits
field-nil at w =
    rw (
      ← replicate-append-replicate at w false,
      drop_at (replicate at false) (replicate w false) at (length-replicate at false),
    )
    (ap from_bits (take_all w (replicate w false) (omega (arith, length-replicate w false))) ∙ from_bits-zeros w)

-- behind the first byte
field-cons : (b : ℕ) (s : List ℕ) (at w : ℕ) → field (b ∷ s) (8 + at) w ≡ field s at w
unfolding field bytes_to_bits padded
field-cons b s at w =
    let n = 8 + at + w in
    let e : drop (8 + at) (padded (b ∷ s) n) ≡ drop at (padded s n) =
    sym (drop-drop at 8 (padded (b ∷ s) n)) ∙ ap (drop at) (ap (drop 8) (append_assoc (to_bits 8 b) (bytes_to_bits s) (replicate n false)) ∙ drop_at (to_bits 8 b) (padded s n) 8 (length-to_bits 8 b)) in
    ap (λ (l : List Bool). from_bits (take w l)) e ∙ sym (field-padded s n at w (omega arith))

-- the first byte
field-first : (b : ℕ) (s : List ℕ) → field (b ∷ s) 0 8 ≡ b % 256
unfolding field bytes_to_bits to_bits
field-first b s = from_bits-to_bits-mod 8 b

-- the field of a byte is its number, and past the end 0
pub field-byte : (s : List ℕ) (k : ℕ) → field s (8 * k) 8 ≡ get_or s k 0 % 256
field-byte [] k = field-nil (8 * k) 8
field-byte (b ∷ s) zero = field-first b s
field-byte (b ∷ s) (suc k) = let e : 8 * suc k ≡ 8 + 8 * k = omega arith in rw e (field-cons b s (8 * k) 8 ∙ field-byte s k)
