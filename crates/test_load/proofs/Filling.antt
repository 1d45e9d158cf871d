-- A buffer that is filled request by request, and what it holds at the end.
-- Assumes nothing.
use Prim.Native.Nat.{ℕ, ◌+◌, ◌*◌, ◌/◌, ◌≤◌, ◌<◌}
use native.Mathlib.Omega.{arith}
use mathlib.Core.Path.{◌≡◌, refl, sym, ap, ap₂, ◌∙◌}
use mathlib.Core.List.{List}
use lib.ListN.{length}
use Rattle.std.specs.Prelude.{Ok, Err}
use lib.Dec.{eqb}
use borrow.Author.Tests.{eq-eqb, ne_eqb, eqb-true, eqb-false}
use Rattle.model.specs.Decisions.{refuses}
use Rattle.model.proofs.Tests.{split}
use Rattle.bits.specs.Bits.{join}
use Rattle.model.specs.declared.Decision.{Decision}
use Rattle.model.specs.declared.Decision.TheVariants.{Granted, ZeroSeed}
use Rattle.model.specs.Tests.{unless}
use Rattle.model.specs.Requests.{request_size, pack}
use Rattle.model.specs.Buffers.{put, front}
use Rattle.model.proofs.Buffers.{put-none, put-more, put_front, length-put}
use Rattle.test_load.specs.Generator.{draw}
use Rattle.test_load.specs.Load.{made, requests_from, bytes_from, loading, load_count, load_answer, loaded}
use Rattle.test_load.proofs.Draws.{draw-add, bytes-more, bytes-length}

-- ---- the answer

module _ (seed : ℕ) (buffer : List ℕ) where
  -- "15, seed 0, before any byte is written"
  pub zero-refused : seed ≡ 0 → (ZeroSeed ≡ loading seed) × (0 ≡ load_count seed buffer) × (buffer ≡ loaded seed buffer)
  unfolding unless loading load_count loaded
  zero-refused e = rw (eq-eqb seed 0 e) (refl, refl, refl)

  -- as the code hands it on
  pub zero-answer : seed ≡ 0 → (Err ZeroSeed ≡ load_answer seed buffer) × (buffer ≡ loaded seed buffer)
  unfolding unless loading load_answer loaded
  zero-answer e = rw (eq-eqb seed 0 e) (refl, refl)

  module _ (e : seed ≡ 0 → ⊥) where
    pub seed-taken : loading seed ≡ Granted
    unfolding unless loading
    seed-taken = rw (ne_eqb seed 0 e)

    pub count-taken : load_count seed buffer ≡ length buffer / request_size
    unfolding load_count
    count-taken = rw seed-taken

    pub answer-taken : load_answer seed buffer ≡ Ok (length buffer / request_size)
    unfolding load_answer
    answer-taken = rw (seed-taken, count-taken)

    pub load-taken : loaded seed buffer ≡ front (request_size * (length buffer / request_size)) (bytes_from (length buffer / request_size) seed) buffer
    unfolding loaded
    load-taken = rw (count-taken, seed-taken)

-- the two answers, each in its parts
pub answer-refused : (seed : ℕ) (buffer : List ℕ) (d : Decision) → load_answer seed buffer ≡ Err d → (d ≡ loading seed) × (load_count seed buffer ≡ 0)
unfolding load_answer load_count
answer-refused seed buffer d =
    split (refuses (loading seed)) (λ e. rw e (λ h. (let same : d ≡ loading seed = cc in same, refl))) (λ e. rw e (λ h. absurd (let z : ◌≡◌ {A = ℕ} 0 1 = cc in omega arith)))

pub answer-counted : (seed : ℕ) (buffer : List ℕ) (n : ℕ) → load_answer seed buffer ≡ Ok n → (loading seed ≡ Granted) × (n ≡ load_count seed buffer)
answer-counted seed buffer n h =
    split (eqb seed 0)
    (λ e. let r = (zero-answer seed buffer (eqb-true seed 0 e)).0 in absurd (let z : ◌≡◌ {A = ℕ} 0 1 = cc in omega arith))
    (λ e. let t = eqb-false seed 0 e in (seed-taken seed buffer t, (let same : n ≡ length buffer / request_size = cc (answer-taken seed buffer t) in same) ∙ sym (count-taken seed buffer t)))

-- ---- the loop

-- after i turns: i requests are put, and the state is that behind their draws
pub record Filling (seed : ℕ) (buffer : List ℕ) (count : ℕ) (out : List ℕ) (state i : ℕ) : Type 0 where
  pub bound : i ≤ count
  pub room : count ≡ length buffer / request_size
  pub drawn : state ≡ draw (7 * i) seed
  pub put_so_far : out ≡ put buffer 0 (bytes_from i seed)

pub start : (seed : ℕ) (buffer : List ℕ) → Filling seed buffer (length buffer / request_size) buffer seed 0
unfolding draw bytes_from requests_from join
start seed buffer = record { bound = omega arith; room = refl; drawn = refl; put_so_far = put-none buffer 0 }

module _ (seed : ℕ) (buffer : List ℕ) (count : ℕ) (out : List ℕ) (state i : ℕ) (F : Filling seed buffer count out state i) where
  -- there is room for as many requests as were counted
  pub in-room : (n : ℕ) → n ≤ count → request_size * n ≤ length buffer
  in-room n h = omega (arith, F.room)

  pub length-kept : length out ≡ length buffer
  length-kept =
      ap length F.put_so_far ∙ length-put buffer 0 (bytes_from i seed) (omega (arith, bytes-length i seed, in-room i F.bound))

  -- one request more
  pub further : (new next : List ℕ) (after : ℕ) → i < count → new ≡ pack (made state) → after ≡ draw 7 state → next ≡ put out (6 * i) new
      → Filling seed buffer count next after (i + 1)
  further new next after h p q r =
      let sum : 7 * i + 7 ≡ 7 * (i + 1) = omega arith in
      record {
        bound = omega (arith, h);
        room = F.room;
        drawn = q ∙ ap (draw 7) F.drawn ∙ sym (draw-add (7 * i) 7 seed) ∙ ap (λ k. draw k seed) sum;
        put_so_far = r ∙ ap₂ (λ x y. put x (6 * i) y) F.put_so_far (p ∙ ap (λ s. pack (made s)) F.drawn)
            ∙ put-more buffer 0 (bytes_from i seed) (pack (made (draw (7 * i) seed))) (6 * i) (omega (arith, bytes-length i seed)) (omega arith)
            ∙ ap (put buffer 0) (sym (bytes-more i seed));
      }

  -- all of them
  pub ended : (seed ≡ 0 → ⊥) → count ≤ i → (Ok count ≡ load_answer seed buffer) × (out ≡ loaded seed buffer)
  ended e h =
      let all : i ≡ length buffer / request_size = omega (arith, F.bound, F.room) in (
        ap (λ n. Ok n) F.room ∙ sym (answer-taken seed buffer e),
        F.put_so_far ∙ ap (λ k. put buffer 0 (bytes_from k seed)) all
            ∙ put_front buffer (bytes_from (length buffer / request_size) seed) (request_size * (length buffer / request_size)) (bytes-length (length buffer / request_size) seed)
            ∙ sym (load-taken seed buffer e),
      )
