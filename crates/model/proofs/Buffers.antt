-- Laws of lent buffers: what a buffer that is too short keeps, what stands in front of a filled one and behind that, and bytes put from a place on.
-- Assumes nothing.
use Prim.Native.Nat.{ℕ, zero, suc, ◌+◌, ◌<◌, ◌≤◌}
use native.Mathlib.Omega.{arith}
use mathlib.Core.Path.{◌≡◌, refl, sym, ap, ap₂, ◌∙◌}
use mathlib.Core.Bool.{true, false}
use mathlib.Core.List.{List, [], ◌∷◌, ◌++◌, append_assoc}
use lib.ListN.{length, take, drop, set, length-append, length-drop, take-append-drop}
use lib.Seq.{take_at, drop_at, drop-drop, length-take-le}
use borrow.Author.Tests.{lt-ltb, le-ltb, ltb-true, ltb-false}
use Rattle.model.specs.declared.Monitor.{Monitor}
use Rattle.model.specs.declared.Decision.TheVariants.{Granted, ShortBuffer}
use Rattle.model.specs.Layout.{image_size, image_of}
use Rattle.model.specs.Buffers.{too_short, front, filled, put}
use Rattle.model.specs.Writing.{writing, written}
use Rattle.model.proofs.Tests.{split, cond-true, cond-false}

-- ---- too short or not

module _ (n : ℕ) (buffer : List ℕ) where
  pub short-is : length buffer < n → too_short n buffer ≡ true
  unfolding too_short
  short-is h = lt-ltb (length buffer) n h

  pub room-is : n ≤ length buffer → too_short n buffer ≡ false
  unfolding too_short
  room-is h = le-ltb (length buffer) n h

  pub is-short : too_short n buffer ≡ true → length buffer < n
  unfolding too_short
  is-short e = ltb-true (length buffer) n e

  pub has_room : too_short n buffer ≡ false → n ≤ length buffer
  unfolding too_short
  has_room e = ltb-false (length buffer) n e

-- ---- new bytes in front

module _ (n : ℕ) (new buffer : List ℕ) (size : length new ≡ n) where
  pub front-new : take n (front n new buffer) ≡ new
  front-new = take_at new (drop n buffer) n size

  pub front-later : drop n (front n new buffer) ≡ drop n buffer
  front-later = drop_at new (drop n buffer) n size

  pub front_length : n ≤ length buffer → length (front n new buffer) ≡ length buffer
  front_length h = length-append new (drop n buffer) ∙ omega (arith, h, size, length-drop n buffer)

module _ (room n : ℕ) (new buffer : List ℕ) where
  -- a refused writing leaves every byte
  pub filled-short : length buffer < room → filled room n new buffer ≡ buffer
  filled-short h = cond-true (too_short room buffer) buffer (front n new buffer) (short-is room buffer h)

  pub filled-front : room ≤ length buffer → filled room n new buffer ≡ front n new buffer
  filled-front h = cond-false (too_short room buffer) buffer (front n new buffer) (room-is room buffer h)

  -- later bytes are left, whether it was refused or not
  pub filled-later : length new ≡ n → drop n (filled room n new buffer) ≡ drop n buffer
  filled-later size =
      split (too_short room buffer)
      (λ e. ap (drop n) (filled-short (is-short room buffer e)))
      (λ e. ap (drop n) (filled-front (has_room room buffer e)) ∙ front-later n new buffer size)

  -- and there are as many bytes as before
  pub filled-length : length new ≡ n → n ≤ room → length (filled room n new buffer) ≡ length buffer
  filled-length size h =
      split (too_short room buffer)
      (λ e. ap length (filled-short (is-short room buffer e)))
      (λ e. ap length (filled-front (has_room room buffer e)) ∙ front_length n new buffer size (omega (arith, h, has_room room buffer e)))

-- ---- the two answers of writing an image

pub writing-short : (m : Monitor) (buffer : List ℕ) → length buffer < image_size → (ShortBuffer ≡ writing buffer) × (buffer ≡ written m buffer)
unfolding writing written
writing-short m buffer h = (
  sym (cond-true (too_short image_size buffer) ShortBuffer Granted (short-is image_size buffer h)),
  sym (filled-short image_size image_size (image_of m) buffer h),
)

pub writing-done : (m : Monitor) (buffer last : List ℕ) → image_size ≤ length buffer → last ≡ front image_size (image_of m) buffer
    → (Granted ≡ writing buffer) × (last ≡ written m buffer)
unfolding writing written
writing-done m buffer last h e = (
  sym (cond-false (too_short image_size buffer) ShortBuffer Granted (room-is image_size buffer h)),
  e ∙ sym (filled-front image_size image_size (image_of m) buffer h),
)

-- ---- bytes put from a place on

-- nothing put
pub put-none : (s : List ℕ) (at : ℕ) → s ≡ put s at []
unfolding put
put-none s at = let e : at + 0 ≡ at = omega arith in rw e (sym (take-append-drop at s))

pub length-put : (s : List ℕ) (at : ℕ) (new : List ℕ) → at + length new ≤ length s → length (put s at new) ≡ length s
unfolding put
length-put s at new h =
    length-append (take at s) (new ++ drop (at + length new) s)
    ∙ omega (arith, length-append new (drop (at + length new) s), length-take-le at s (omega arith), length-drop (at + length new) s)

-- from the first byte on
pub put_front : (s new : List ℕ) (n : ℕ) → length new ≡ n → put s 0 new ≡ front n new s
unfolding put
put_front s new n e = ap (λ k. new ++ drop k s) (let z : 0 + length new ≡ n = omega (arith, e) in z)

-- put behind other bytes
put-behind : (first rest new : List ℕ) (at : ℕ) → length first ≡ at → put (first ++ rest) at new ≡ first ++ (new ++ drop (length new) rest)
unfolding put
put-behind first rest new at e =
    ap₂ (λ (x y : List ℕ). x ++ (new ++ y)) (take_at first rest at e)
    (sym (drop-drop (length new) at (first ++ rest)) ∙ ap (drop (length new)) (drop_at first rest at e))

-- more behind what was put
pub put-more : (s : List ℕ) (i : ℕ) (a b : List ℕ) (k : ℕ) → k ≡ i + length a → i ≤ length s → put (put s i a) k b ≡ put s i (a ++ b)
unfolding put
put-more s i a b k e h =
    let first = take i s ++ a in
    let rest = drop (i + length a) s in
    let size : length first ≡ k = length-append (take i s) a ∙ omega (arith, e, length-take-le i s h) in
    let far : i + length a + length b ≡ i + length (a ++ b) = omega (arith, length-append a b) in
    ap (λ l. put l k b) (sym (append_assoc (take i s) a rest)) ∙ put-behind first rest b k size
    ∙ ap (λ l. first ++ (b ++ l)) (drop-drop (length b) (i + length a) s ∙ ap (λ n. drop n s) far)
    ∙ append_assoc (take i s) a (b ++ drop (i + length (a ++ b)) s) ∙ ap (λ l. take i s ++ l) (sym (append_assoc a b (drop (i + length (a ++ b)) s)))

-- one byte, stored
pub put_byte : (s : List ℕ) (at b : ℕ) → at < length s → set s at b ≡ put s at (b ∷ [])
unfolding put
put_byte [] at b h = absurd (omega arith)
put_byte (x ∷ s) zero b h = refl
put_byte (x ∷ s) (suc at) b h = let e : suc at + 1 ≡ suc (at + 1) = omega arith in rw e (ap (λ r. x ∷ r) (put_byte s at b (omega arith)))

-- a byte stored behind what was put
pub put_next : (s : List ℕ) (at : ℕ) (new : List ℕ) (k b : ℕ) → k ≡ at + length new → k < length s → set (put s at new) k b ≡ put s at (new ++ (b ∷ []))
put_next s at new k b e h =
    put_byte (put s at new) k b (omega (arith, h, length-put s at new (omega (arith, e, h)))) ∙ put-more s at new (b ∷ []) k e (omega (arith, e, h))
