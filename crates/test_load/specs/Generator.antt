-- The generator of a test load (change request §5): the 32-bit xorshift of Marsaglia (2003).
-- Assumes nothing.
use Rattle.std.specs.Prelude.{ℕ, zero, suc, ◌*◌, ◌/◌, ◌%◌, ◌^◌}
use Rattle.std.specs.Int.Bits.{bit_xor}

-- "32-bit"
abbrev pub state_width : ℕ
state_width = 32

-- "shift left .. combined by exclusive or, high bits dropped"
abbrev pub shift_left : ℕ → ℕ → ℕ
shift_left k x = bit_xor x (x * 2 ^ k % 2 ^ state_width)

-- "right .. combined by exclusive or"
abbrev pub shift_right : ℕ → ℕ → ℕ
shift_right k x = bit_xor x (x / 2 ^ k)

-- "shift left 13, right 17, left 5"
unfoldable pub xorshift : ℕ → ℕ
xorshift x = shift_left 5 (shift_right 17 (shift_left 13 x))

-- the n-th draw from a state, which is also the state after n draws
unfoldable pub draw : ℕ → ℕ → ℕ
draw zero x = x
draw (suc n) x = draw n (xorshift x)
