-- The two parts of a number with a count beside it, and those of a load.
-- Assumes nothing.
use Prim.Native.Nat.{ℕ, ◌*◌, ◌/◌, ◌%◌, ◌^◌, ◌<◌}
use native.Mathlib.Nat.{mod-lt, mod-eq_of_lt, zero-add}
use native.Mathlib.Omega.{arith}
use mathlib.Core.Path.{◌≡◌, refl, sym, ap, ap₂, ◌∙◌}
use mathlib.Core.Logic.{◌≢◌}
use mathlib.Core.List.{List}
use lib.ListN.{length}
use lib.Pow.{pow_pos}
use Rattle.model.specs.Decisions.{number}
use Rattle.model.specs.Requests.{request_size}
use Rattle.model.proofs.Decisions.{number_small}
use Rattle.test_load.specs.Load.{loading, load_count}
use Rattle.test_load.proofs.Filling.{zero-refused, seed-taken, count-taken}
use Rattle.numbers.specs.Counts.{with_count}

module _ (n count : ℕ) (h : n < 256) where
  -- the number is the low byte
  pub number-beside : with_count n count % 256 ≡ n
  number-beside = omega arith

  -- the count stands above it
  pub count-beside : with_count n count / 256 ≡ count % 2 ^ 56
  count-beside = omega arith

  -- both fit in 64 bits
  pub both-fit : with_count n count < 2 ^ 64
  both-fit = omega (arith, mod-lt count (pow_pos 56))

-- computed: 0 with the count 2, and 15 with the count 0
pub two-beside-0 : (with_count 0 2 ≡ 512) × (with_count 15 0 ≡ 15)
two-beside-0 = (refl, refl)

-- ---- what `circmon_load` returns

module _ (seed : ℕ) (buffer : List ℕ) where
  abbrev returned : ℕ
  returned = with_count (number (loading seed)) (load_count seed buffer)

  -- "Refused: 15, seed 0": 15 with the count 0
  pub load-15 : seed ≡ 0 → returned ≡ 15
  load-15 e =
      let refused = zero-refused seed buffer e in
      sym (ap₂ with_count (ap number refused.0) refused.1)

  module _ (e : seed ≢ 0) where
    -- "0 is returned with their count beside it"
    pub load-0 : returned ≡ 256 * (length buffer / request_size % 2 ^ 56)
    load-0 = ap₂ with_count (ap number (seed-taken seed buffer e)) (count-taken seed buffer e) ∙ zero-add _

    pub load-number : returned % 256 ≡ 0
    load-number = number-beside (number (loading seed)) (load_count seed buffer) (omega (arith, number_small (loading seed))) ∙ ap number (seed-taken seed buffer e)

    -- the count is whole but for buffers of 6 times 2^56 bytes or more
    pub load-count : length buffer < request_size * 2 ^ 56 → returned / 256 ≡ length buffer / request_size
    load-count h =
        count-beside (number (loading seed)) (load_count seed buffer) (omega (arith, number_small (loading seed)))
        ∙ ap (λ n. n % 2 ^ 56) (count-taken seed buffer e) ∙ mod-eq_of_lt (omega (arith, h))
