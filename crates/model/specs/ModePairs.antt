-- Mode pairs: what the star property asks of two accesses of one subject, as a table (change request §4).
-- Assumes nothing.
use Rattle.std.specs.Prelude.{ℕ, ◌≡◌, ◌⊎◌, Bool, true, false, ◌&&◌}
use Rattle.model.specs.Levels.{Label, Dominates, dominates}
use Rattle.model.specs.declared.Mode.{Mode}
use Rattle.model.specs.declared.Mode.TheVariants.{Read, Write, Append, Execute}
use Rattle.model.specs.declared.Monitor.{Monitor}
use Rattle.model.specs.Tests.{implies}
use Rattle.model.specs.Modes.{observes, alters}
use Rattle.model.specs.State.{object}
use Rattle.model.specs.Properties.{Holds}

-- "which label must dominate which, or both, or neither": wanted, that of the object wanted; held, that of the object held
pub data Asked : Type 0 where
  neither : Asked
  wanted : Asked
  held : Asked
  both : Asked

-- one row, whose columns are the modes wanted
abbrev pub row : Asked → Asked → Asked → Asked → Mode → Asked
row r w a e Read = r
row r w a e Write = w
row r w a e Append = a
row r w a e Execute = e

-- "a four by four table that says, for each mode held and mode wanted, which label must dominate which": a row for each mode held
abbrev pub entry : Mode → Mode → Asked
entry Read = row neither wanted wanted neither
entry Write = row held both wanted neither
entry Append = row held held neither neither
entry Execute = row neither neither neither neither

-- what an entry asks, where the object held is labelled p and the object wanted q
abbrev pub Kept : Asked → Label → Label → Type 0
Kept neither p q = Unit {0}
Kept wanted p q = Dominates q p
Kept held p q = Dominates p q
Kept both p q = Dominates q p × Dominates p q

-- what the star property asks of a subject with access x to an object labelled p and access y to one labelled q: "where one subject holds
-- r or w on P and a or w on Q, the label of Q dominates the label of P", with either object as P
abbrev pub StarAsks : Mode → Mode → Label → Label → Type 0
StarAsks x y p q = (observes x ≡ true → alters y ≡ true → Dominates q p) × (observes y ≡ true → alters x ≡ true → Dominates p q)

-- the entry is kept by every two accesses of one subject, the one as held and the other as wanted
abbrev pub Tabled : Monitor → Type 0
Tabled m =
    (s p q : ℕ) (x y : Mode) → Holds m s p x → Holds m s q y → Kept (entry x y) (object m p).label (object m q).label

-- the entry is kept by each access that subject s holds, as held, and access x to object o, as wanted
abbrev pub KeptByHeld : Monitor → ℕ → ℕ → Mode → Type 0
KeptByHeld m s o x = (p : ℕ) (h : Mode) → Holds m s p h → Kept (entry h x) (object m p).label (object m o).label

-- subject s has access x to object p and access y to object q, and nobody has another access than these two
pub record Two (m : Monitor) (s p q : ℕ) (x y : Mode) : Type 0 where
  pub first : Holds m s p x
  pub second : Holds m s q y
  pub only : (t o : ℕ) (z : Mode) → Holds m t o z → ((o ≡ p) × (z ≡ x)) ⊎ ((o ≡ q) × (z ≡ y))

-- whether an entry asks that the label of the object wanted dominate, and whether it asks that that of the object held does
abbrev pub asks_wanted : Asked → Bool
asks_wanted neither = false
asks_wanted wanted = true
asks_wanted held = false
asks_wanted both = true

abbrev pub asks_held : Asked → Bool
asks_held neither = false
asks_held wanted = false
asks_held held = true
asks_held both = true

-- whether two labels keep what an entry asks, as a test
unfoldable pub kept : Asked → Label → Label → Bool
kept a p q = implies (asks_wanted a) (dominates q p) && implies (asks_held a) (dominates p q)
