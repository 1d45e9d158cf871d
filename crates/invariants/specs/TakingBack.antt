-- What is said of takings-back (change request §9): which requests took children, how many requests changed the state, a state that
-- requests alone reach, and a history of whole states.
-- Assumes nothing.
use Rattle.std.specs.Prelude.{ℕ, suc, ◌≡◌, Bool, true, false, cond, not, ◌&&◌, List, [], ◌∷◌, take, eqb, Some, None}
use Rattle.model.specs.declared.Monitor.{Monitor}
use Rattle.model.specs.Requests.{Decoded, decode}
use Rattle.model.specs.Runs.{respond, reply, after}
use Rattle.model.specs.Journal.{takes_children, Act, asks, takes_back}

-- "n requests with reply 0": how many of these replies are 0
unfoldable pub zeros : List ℕ → ℕ
zeros [] = 0
zeros (r ∷ rs) = cond (eqb r 0) (suc (zeros rs)) (zeros rs)

-- the bytes were granted and are "A deletion that took children" (change request §11)
abbrev pub said_to_take : Decoded → Monitor → Bool
said_to_take None m = false
said_to_take (Some q) m = takes_children q m

unfoldable pub took_children : List ℕ → Monitor → Bool
took_children b m = eqb (reply b m) 0 && said_to_take (decode m.profile b) m

-- none of a list of requests took children
unfoldable pub none_took : List (List ℕ) → Monitor → Bool
none_took [] m = true
none_took (b ∷ bs) m = not (took_children b m) && none_took bs (respond b m).monitor

-- a list of requests, and no taking-back, leads from one state to the other
pub record ByRequests (m n : Monitor) : Type 0 where
  pub requests : List (List ℕ)
  pub leads : after requests m ≡ n

-- ---- once more with whole states in place of records

-- the state, and the states before the requests that can still be taken back, the latest first
pub record History : Type 0 where
  pub present : Monitor
  pub past : List Monitor

-- "for each reply 0", "up to 32", "the oldest .. gives way"; "A deletion that took children empties the journal" (change request §11)
abbrev pub remembered : List ℕ → Monitor → List Monitor → List Monitor
remembered b m past = cond (took_children b m) [] (cond (eqb (reply b m) 0) (take 32 (m ∷ past)) past)

-- "restores exactly the state before the latest request"; without one, "state unchanged"
abbrev pub returned : Monitor → List Monitor → History
returned m [] = record { present = m; past = [] }
returned m (n ∷ past) = record { present = n; past = past }

unfoldable pub history : List Act → History → History
history [] h = h
history (asks b ∷ l) h =
    history l (record { present = (respond b h.present).monitor; past = remembered b h.present h.past })
history (takes_back ∷ l) h = history l (returned h.present h.past)
