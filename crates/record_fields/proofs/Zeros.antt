-- Bits that are 0, and bytes of them put where nothing waits.
-- Assumes nothing.
use Prim.Native.Nat.{ℕ, zero, suc, ◌+◌, ◌-◌, ◌*◌, ◌/◌, ◌%◌, ◌≤◌}
use native.Mathlib.Omega.{arith}
use mathlib.Core.Path.{◌≡◌, refl, sym, ap, ◌∙◌, subst}
use mathlib.Core.Bool.{Bool, false}
use mathlib.Core.List.{List, ◌++◌, append_assoc}
use borrow.Rule.Slice.PartMut.{put_mid, same_len_mid}
use lib.Dec.{lit<}
use lib.ListN.{length, take, drop, replicate, length-drop, length-replicate, replicate-append-replicate}
use lib.Seq.{length-take-le}
use Rattle.std.proofs.lemmas.Slice.{take-put_mid, drop-put_mid}
use Rattle.bits.specs.Bits.{to_bits, bytes_to_bits, joined, waiting}
use Rattle.bits.specs.Laws.{to_bits-zero, bytes_to_bits-append}
use Rattle.bits.specs.Stream.{Appends, written}

-- whatever waited, eight bits later only they do
pub zeros-wait : (acc : ℕ) → waiting acc 8 0 ≡ 0
unfolding waiting joined
zeros-wait acc = omega arith

-- bytes that are 0
zero-bytes : (n : ℕ) → bytes_to_bits (replicate n 0) ≡ replicate (8 * n) false
unfolding bytes_to_bits
zero-bytes zero = refl
zero-bytes (suc n) =
    let e : 8 + 8 * n ≡ 8 * suc n = omega arith in
    rw (zero-bytes n, to_bits-zero 8, replicate-append-replicate 8 (8 * n) false, e)

-- zeros change places
zeros-swap : (b : List Bool) (n m : ℕ) → (b ++ replicate n false) ++ replicate m false ≡ (b ++ replicate m false) ++ replicate n false
zeros-swap b n m =
    let e : n + m ≡ m + n = omega arith in
    append_assoc b (replicate n false) (replicate m false)
    ∙ ap (λ (l : List Bool). b ++ l) (replicate-append-replicate n m false ∙ ap (λ (k : ℕ). replicate k false) e ∙ sym (replicate-append-replicate m n false))
    ∙ sym (append_assoc b (replicate m false) (replicate n false))

-- where nothing but 0 waits, bytes that are 0 put behind it
zeros-filled : (s : List ℕ) (at n k : ℕ) (z : List ℕ) → at + 8 * n ≤ 8 * length s → k ≡ n → z ≡ replicate (length (take k (drop (at / 8) s))) 0
    → Appends s at 0 (replicate (8 * n) false) (put_mid (at / 8) k s z) (at + 8 * n) 0
unfolding written
zeros-filled s at n k z h e f =
    let a = at / 8 in
    let to : (at + 8 * n) / 8 ≡ a + n = omega arith in
    let part : (at + 8 * n) % 8 ≡ at % 8 = omega arith in
    let within : a ≤ length s = omega arith in
    let size : length (take k (drop a s)) ≡ n = length-take-le k (drop a s) (rw (length-drop a s) (omega arith)) ∙ e in
    let zs : z ≡ replicate n 0 = f ∙ ap (λ (i : ℕ). replicate i 0) size in
    let long : length z ≡ n = ap length zs ∙ length-replicate n 0 in
    record {
      bits = rw (to, part, take-put_mid a k s z (a + n) (omega (arith, long)) within, zs, bytes_to_bits-append (take a s) (replicate n 0), zero-bytes n, to_bits-zero (at % 8))
          (zeros-swap (bytes_to_bits (take a s)) (8 * n) (at % 8));
      moves = rw (length-replicate {A = Bool} (8 * n) false);
      stays = rw to (drop-put_mid a k s z (a + n) (omega (arith, e)) within (long ∙ sym e));
      size = same_len_mid a k s z (long ∙ sym size);
      small = lit< tt;
    }

pub zeros-behind : (s : List ℕ) (at n k r : ℕ) (z : List ℕ) → r ≡ 0 → at + 8 * n ≤ 8 * length s → k ≡ n → z ≡ replicate (length (take k (drop (at / 8) s))) 0
    → Appends s at r (replicate (8 * n) false) (put_mid (at / 8) k s z) (at + 8 * n) r
zeros-behind s at n k r z none h e f =
    subst (λ (i : ℕ). Appends s at i (replicate (8 * n) false) (put_mid (at / 8) k s z) (at + 8 * n) i) (sym none) (zeros-filled s at n k z h e f)

-- the bits that fill no byte, eight more, and the whole bytes behind them
pub all-zeros : (w : ℕ) → 8 ≤ w → (to_bits (w % 8) 0 ++ to_bits 8 0) ++ replicate (8 * (w / 8 - 1)) false ≡ replicate w false
all-zeros w h =
    let sum : w % 8 + 8 + 8 * (w / 8 - 1) ≡ w = omega arith in
    rw (to_bits-zero (w % 8), to_bits-zero 8, replicate-append-replicate (w % 8) 8 false, replicate-append-replicate (w % 8 + 8) (8 * (w / 8 - 1)) false, sum)
