-- What a lent buffer holds after a load: as many whole requests as fit, each by its own seven draws, and the bytes behind them left.
-- Assumes nothing.
use Prim.Native.Nat.{ℕ, zero, suc, ◌+◌, ◌*◌, ◌≤◌, ◌<◌}
use native.Mathlib.Nat.{mul_comm}
use native.Mathlib.Omega.{arith}
use mathlib.Core.Path.{◌≡◌, refl, sym, ap, ◌∙◌}
use mathlib.Core.Logic.{◌≢◌}
use mathlib.Core.List.{List, map}
use lib.Dec.{eqb}
use lib.ListN.{length, take, drop, get_or, get_or-map}
use borrow.Author.Tests.{eqb-true, eqb-false}
use Rattle.bits.specs.Bits.{cut}
use Rattle.bits.specs.Records.{cut-join, cut_at, cut-take}
use Rattle.model.specs.declared.Fields.{Fields}
use Rattle.model.specs.declared.Monitor.{Monitor}
use Rattle.model.specs.declared.Decision.TheVariants.{ZeroSeed}
use Rattle.model.specs.State.{widest}
use Rattle.model.specs.Requests.{request_size, fields, pack}
use Rattle.model.specs.Buffers.{front}
use Rattle.model.specs.Runs.{reply}
use Rattle.model.proofs.Tests.{not_on, not-off}
use Rattle.model.proofs.Packing.{pack-length}
use Rattle.model.proofs.Buffers.{front-new, front-later, front_length}
use Rattle.refusals.specs.First.{AnswersFirst}
use Rattle.refusals.proofs.First.{answers-end, answers-check}
use Rattle.test_load.specs.Generator.{draw}
use Rattle.test_load.specs.Load.{made, requests_from, bytes_from, loading, load_count, loaded}
use Rattle.test_load.specs.Causes.{load_causes}
use Rattle.test_load.proofs.Draws.{draw-add, bytes-length}
use Rattle.test_load.proofs.WellFormed.{made-fields, made-never-2}
use Rattle.test_load.proofs.Filling.{count-taken, load-taken}

-- the answer is the first cause, and 0 exactly where there is none
pub load-answers : (seed : ℕ) → AnswersFirst (load_causes seed) (loading seed)
unfolding loading
load-answers seed =
    answers-check _ ZeroSeed _ _ _ refl (λ e z. eqb-false seed 0 (not_on (eqb seed 0) e) z) (λ e. eqb-true seed 0 (not-off (eqb seed 0) e)) answers-end

-- ---- the requests

-- the i-th request comes from the state behind the seven draws of each one before it
pub request-at : (n x i : ℕ) (d : Fields) → i < n → get_or (requests_from n x) i d ≡ made (draw (7 * i) x)
unfolding requests_from draw
request-at zero x i d h = absurd (omega arith)
request-at (suc n) x zero d h = refl
request-at (suc n) x (suc i) d h =
    let sum : 7 + 7 * i ≡ 7 * suc i = omega arith in
    request-at n (draw 7 x) i d (omega arith) ∙ ap made (sym (draw-add 7 (7 * i) x) ∙ ap (λ k. draw k x) sum)

length-requests : (n x : ℕ) → length (requests_from n x) ≡ n
unfolding requests_from
length-requests zero x = refl
length-requests (suc n) x = ap suc (length-requests n (draw 7 x))

-- in pieces of six bytes they are the requests
pub pieces-from : (n x : ℕ) → cut n request_size (bytes_from n x) ≡ map pack (requests_from n x)
unfolding bytes_from
pieces-from n x = cut-join pack request_size (made x) n (requests_from n x) (length-requests n x) (λ i. pack-length (get_or (requests_from n x) i (made x)))

module _ (seed : ℕ) (buffer : List ℕ) (e : seed ≢ 0) where
  abbrev count : ℕ
  count = load_count seed buffer

  -- "as many whole requests as fit": they do, and one more would not
  pub load_fits : (request_size * count ≤ length buffer) × (length buffer < request_size * count + request_size)
  load_fits = rw (count-taken seed buffer e) (omega arith, omega arith)

  load-front : loaded seed buffer ≡ front (request_size * count) (bytes_from count seed) buffer
  load-front = load-taken seed buffer e ∙ ap (λ n. front (request_size * n) (bytes_from n seed) buffer) (sym (count-taken seed buffer e))

  -- the requests stand in front
  pub load-requests : cut count request_size (loaded seed buffer) ≡ map pack (requests_from count seed)
  load-requests =
      let order : count * request_size ≡ request_size * count = mul_comm count request_size in
      sym (cut-take count request_size (loaded seed buffer))
      ∙ ap (cut count request_size)
      (ap (λ n. take n (loaded seed buffer)) order ∙ ap (take (request_size * count)) load-front
      ∙ front-new (request_size * count) (bytes_from count seed) buffer (bytes-length count seed))
      ∙ pieces-from count seed

  -- the i-th piece has the fields of its own seven draws
  pub load-request-at : (i : ℕ) → i < count → take request_size (drop (request_size * i) (loaded seed buffer)) ≡ pack (made (draw (7 * i) seed))
  load-request-at i h =
      sym (cut_at count request_size (loaded seed buffer) i (pack (made seed)) h) ∙ ap (λ l. get_or l i (pack (made seed))) load-requests
      ∙ get_or-map pack (requests_from count seed) i (made seed) ∙ ap pack (request-at count seed i (made seed) h)

  pub load-fields-at : (i : ℕ) → i < count → fields (take request_size (drop (request_size * i) (loaded seed buffer))) ≡ made (draw (7 * i) seed)
  load-fields-at i h = ap fields (load-request-at i h) ∙ made-fields (draw (7 * i) seed)

  -- no monitor of the widest profile replies 2 to it
  pub load-never-2 : (m : Monitor) → m.profile ≡ widest → (i : ℕ) → i < count → reply (take request_size (drop (request_size * i) (loaded seed buffer))) m ≢ 2
  load-never-2 m w i h z = made-never-2 (draw (7 * i) seed) m w (ap (λ b. reply b m) (sym (load-request-at i h)) ∙ z)

  -- "the bytes after the last one are left"
  pub load-leaves-later : drop (request_size * count) (loaded seed buffer) ≡ drop (request_size * count) buffer
  load-leaves-later = ap (drop (request_size * count)) load-front ∙ front-later (request_size * count) (bytes_from count seed) buffer (bytes-length count seed)

  pub load-length : length (loaded seed buffer) ≡ length buffer
  load-length = ap length load-front ∙ front_length (request_size * count) (bytes_from count seed) buffer (bytes-length count seed) load_fits.0
