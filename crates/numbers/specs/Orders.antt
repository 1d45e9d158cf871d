-- Whether the order of a list of gets matters, as one number for C.
-- Assumes nothing.
use Rattle.std.specs.Prelude.{ℕ, ◌+◌, ◌*◌, ◌/◌, ◌%◌, ◌^◌, cond, eqb}
use Rattle.start_order.specs.declared.StartOrder.{StartOrder}
use Rattle.start_order.specs.declared.StartOrder.TheVariants.{Agree, Clash, NoGet, TooMany}

-- a place, in 24 bits
abbrev pub place_bits : ℕ → ℕ
place_bits i = i % 2 ^ 24

-- as the header has it: the code in the low byte, 0 where all orders agree, 1 where two gets clash, 2 where a piece is no get, 3 where there are
-- too many; the first place in bits 8 to 31, the second in bits 32 to 55
unfoldable pub order_number : StartOrder → ℕ
order_number Agree = 0
order_number (Clash i j) = 1 + 256 * place_bits i + 2 ^ 32 * place_bits j
order_number (NoGet i) = 2 + 256 * place_bits i
order_number TooMany = 3

-- an answer by its code and two places
abbrev pub by_code : ℕ → ℕ → ℕ → StartOrder
by_code code i j = cond (eqb code 0) Agree (cond (eqb code 1) (Clash i j) (cond (eqb code 2) (NoGet i) TooMany))

-- the answer that a number says, by the parts that the header's macros take out of it
unfoldable pub answer_in : ℕ → StartOrder
answer_in n = by_code (n % 256) (n / 256 % 2 ^ 24) (n / 2 ^ 32 % 2 ^ 24)
