-- Modes and sets of modes ("State" in the scope).
-- Assumes nothing.
use Rattle.std.specs.Prelude.{ℕ, ◌+◌, ◌-◌, ◌/◌, ◌%◌, Bool, true, false, cond, ◌||◌, eqb}
use Rattle.model.specs.declared.Mode.{Mode}
use Rattle.model.specs.declared.Mode.TheVariants.{Read, Write, Append, Execute}

-- "four right bits and four access bits, each r, w, a, e", the first bit the highest
abbrev pub weight : Mode → ℕ
weight Read = 8
weight Write = 4
weight Append = 2
weight Execute = 1

-- the mode is in the set
unfoldable pub has : Mode → ℕ → Bool
has x n = eqb (n / weight x % 2) 1

-- the set with the mode
unfoldable pub add : Mode → ℕ → ℕ
add x n = cond (has x n) n (n + weight x)

-- the set without the mode
unfoldable pub remove : Mode → ℕ → ℕ
remove x n = cond (has x n) (n - weight x) n

-- "r (read), w (write, which also reads)": the modes that observe
abbrev pub observes : Mode → Bool
observes Read = true
observes Write = true
observes Append = false
observes Execute = false

-- "a or w": the modes that alter
abbrev pub alters : Mode → Bool
alters Read = false
alters Write = true
alters Append = true
alters Execute = false

-- "r, w or a": the modes that need a label
abbrev pub needs_label : Mode → Bool
needs_label x = observes x || alters x

-- some mode of the set observes, alters, needs a label
abbrev pub any_observes : ℕ → Bool
any_observes n = has Read n || has Write n

abbrev pub any_alters : ℕ → Bool
any_alters n = has Append n || has Write n

abbrev pub any_needs_label : ℕ → Bool
any_needs_label n = any_observes n || any_alters n

-- the set has some mode, e too
abbrev pub any_held : ℕ → Bool
any_held n = any_needs_label n || has Execute n
