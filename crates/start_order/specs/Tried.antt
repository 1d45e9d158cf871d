-- What the search knows of the pieces: which of them are granted alone.
-- Assumes nothing.
use Rattle.std.specs.Prelude.{ℕ, ◌<◌, ◌≤◌, ◌≡◌, Bool, false, List, [], length, get_or}
use Rattle.model.specs.declared.Monitor.{Monitor}
use Rattle.start_order.specs.Answers.{most_pieces, wanted, alone}

-- of each of the first k pieces the list says whether it is granted alone
abbrev pub Listed : Monitor → List (List ℕ) → ℕ → List Bool → Type 0
Listed m bs k list = (i : ℕ) → i < k → get_or list i false ≡ alone m (wanted m.profile (get_or bs i []))

-- all pieces are listed
pub record Tried (m : Monitor) (bs : List (List ℕ)) (list : List Bool) : Type 0 where
  pub room : length bs ≤ most_pieces
  pub listed : Listed m bs (length bs) list
