-- What each answer says of a monitor and a list, once more and in the words of change requests §6 and §10.
-- Assumes nothing.
use Rattle.std.specs.Prelude.{ℕ, ◌<◌, ◌≤◌, ◌≡◌, ◌⊎◌, List, [], length, get_or}
use Rattle.model.specs.declared.Profile.{Profile}
use Rattle.model.specs.declared.Monitor.{Monitor}
use Rattle.orders.specs.Orders.{Each}
use Rattle.request_orders.specs.AnyOrder.{OrdersAgree}
use Rattle.request_orders.specs.StartOrder.{IsGet, StarAndWall, Clash}
use Rattle.start_order.specs.declared.StartOrder.{StartOrder}
use Rattle.start_order.specs.declared.StartOrder.TheVariants.{Agree, Clash as Clashing, NoGet, TooMany}

-- the piece at i is the first that is no get, to a monitor of the profile
pub record FirstOther (p : Profile) (bs : List (List ℕ)) (i : ℕ) : Type 0 where
  pub within : i < length bs
  pub no_get : IsGet p (get_or bs i []) → ⊥
  pub gets_before : (k : ℕ) → k < i → IsGet p (get_or bs k [])

-- the gets at i and j clash, and no two with a lesser first place, nor with the same and a lesser second
pub record FirstClash (m : Monitor) (bs : List (List ℕ)) (i j : ℕ) : Type 0 where
  pub ordered : i < j
  pub within : j < length bs
  pub clash : Clash StarAndWall m (get_or bs i []) (get_or bs j [])
  pub least : (k l : ℕ) → k < l → l < length bs → Clash StarAndWall m (get_or bs k []) (get_or bs l []) → (i < k) ⊎ ((i ≡ k) × (j ≤ l))

abbrev pub Means : Monitor → List (List ℕ) → StartOrder → Type 0
Means m bs TooMany = 4096 < length bs
Means m bs (NoGet i) = (length bs ≤ 4096) × FirstOther m.profile bs i
Means m bs (Clashing i j) = (length bs ≤ 4096) × Each (IsGet m.profile) bs × FirstClash m bs i j
Means m bs Agree = (length bs ≤ 4096) × Each (IsGet m.profile) bs × OrdersAgree bs m

-- the places that an answer names are below 4,096, and the first of two is the lower one
abbrev pub PlacesFit : StartOrder → Type 0
PlacesFit TooMany = Unit {0}
PlacesFit (NoGet i) = i < 4096
PlacesFit (Clashing i j) = (i < j) × (j < 4096)
PlacesFit Agree = Unit {0}
