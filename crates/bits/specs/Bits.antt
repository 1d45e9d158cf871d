-- Bits in bytes, most significant bit first: of a number at a width, of a list of bytes, in a field, in records.
-- Assumes nothing.
use Rattle.std.specs.Prelude.{ℕ, zero, suc, ◌+◌, ◌-◌, ◌*◌, ◌/◌, ◌%◌, ◌^◌, ◌<◌, Bool, true, false, cond, List, [], ◌∷◌, ◌++◌, eqb, leb, length, take, drop, get_or, set, replicate}

-- a bit as a number
abbrev pub bit : Bool → ℕ
bit true = 1
bit false = 0

-- the last bit of x
unfoldable pub odd : ℕ → Bool
odd x = eqb (x % 2) 1

-- the w low bits of x, the highest first
unfoldable pub to_bits : ℕ → ℕ → List Bool
to_bits zero x = []
to_bits (suc w) x = odd (x / 2 ^ w) ∷ to_bits w x

-- the number that bits are, the highest first
unfoldable pub from_bits : List Bool → ℕ
from_bits [] = 0
from_bits (b ∷ bs) = bit b * 2 ^ length bs + from_bits bs

-- the bits of bytes
unfoldable pub bytes_to_bits : List ℕ → List Bool
bytes_to_bits [] = []
bytes_to_bits (b ∷ bs) = to_bits 8 b ++ bytes_to_bits bs

-- the n bytes that bits are
unfoldable pub bits_to_bytes : ℕ → List Bool → List ℕ
bits_to_bytes zero b = []
bits_to_bytes (suc n) b = from_bits (take 8 b) ∷ bits_to_bytes n (drop 8 b)

-- the number in the field of w bits from bit at on; bits past the end are 0
unfoldable pub field : List ℕ → ℕ → ℕ → ℕ
field s at w = from_bits (take w (drop at (bytes_to_bits s ++ replicate (at + w) false)))

-- n records of w elements, one after the other
unfoldable pub cut : {A : Type 0} → ℕ → ℕ → List A → List (List A)
cut zero w b = []
cut (suc n) w b = take w b ∷ cut n w (drop w b)

-- records side by side
unfoldable pub join : {A : Type 0} → List (List A) → List A
join [] = []
join (r ∷ rs) = r ++ join rs

-- the first bit
abbrev pub first : List Bool → Bool
first b = get_or b 0 false

-- no bit is set
unfoldable pub all_zero : List Bool → Bool
all_zero [] = true
all_zero (true ∷ b) = false
all_zero (false ∷ b) = all_zero b

-- every element is a byte (past the end get_or gives 0)
abbrev pub Bytes : List ℕ → Type 0
Bytes s = (i : ℕ) → get_or s i 0 < 256

-- appending w bits, the low ones of x, behind the bits that wait in acc for their byte to be full
unfoldable pub joined : ℕ → ℕ → ℕ → ℕ
joined acc w x = acc % 256 * 2 ^ w + x % 2 ^ w

-- what waits afterwards
unfoldable pub waiting : ℕ → ℕ → ℕ → ℕ
waiting acc w x = joined acc w x % 256

-- the buffer afterwards: from bit position at on, a byte that is now full is stored; past the end nothing is
unfoldable pub stored : List ℕ → ℕ → ℕ → ℕ → ℕ → List ℕ
stored s at acc w x = cond (leb 8 (at % 8 + w)) (set s (at / 8) (joined acc w x / 2 ^ (at % 8 + w - 8) % 256)) s
