-- A list of requests in any order: what it means that the order does not matter (change requests §6 and §7).
-- Assumes nothing.
use Rattle.std.specs.Prelude.{ℕ, ◌<◌, ◌≡◌, ◌↔◌, Bool, true, false, ◌&&◌, List, [], ◌∷◌, length, get_or, eqb}
use Rattle.model.specs.declared.Monitor.{Monitor}
use Rattle.model.specs.Runs.{after, replies}
use Rattle.orders.specs.Orders.{OrderOf}

-- two byte strings are the same
abbrev pub same_bytes : List ℕ → List ℕ → Bool
same_bytes [] [] = true
same_bytes [] (y ∷ ys) = false
same_bytes (x ∷ xs) [] = false
same_bytes (x ∷ xs) (y ∷ ys) = eqb x y && same_bytes xs ys

-- "all orders of the list leave equal states"; the orders are all permutations, which are the lists in which each byte string stands
-- equally often (`byte-orders`)
abbrev pub OrdersAgree : List (List ℕ) → Monitor → Type 0
OrdersAgree bs m = (cs ds : List (List ℕ)) → OrderOf bs cs → OrderOf bs ds → after cs m ≡ after ds m

-- "granted": a reply of 0 or 1
abbrev pub IsGranted : ℕ → Type 0
IsGranted n = n < 2

-- the reply at place i of the list is one of these
abbrev pub GrantedAt : List (List ℕ) → Monitor → ℕ → Type 0
GrantedAt bs m i = IsGranted (get_or (replies bs m) i 2)

-- "Any two orders of one list .. must leave equal states, and each .. must be granted in both or refused in both": wherever the same bytes
-- stand in the one and in the other, and so every copy of them is granted, or every copy refused
pub record AnyOrder (bs : List (List ℕ)) (m : Monitor) : Type 0 where
  pub states : OrdersAgree bs m
  pub grants : (cs ds : List (List ℕ)) → OrderOf bs cs → OrderOf bs ds → (i j : ℕ) → i < length cs → j < length ds
      → get_or cs i [] ≡ get_or ds j [] → GrantedAt cs m i ↔ GrantedAt ds m j
