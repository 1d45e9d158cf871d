-- Lists of byte strings taken apart: the state after a list and the replies to it are those of its elements, each on the state
-- that the one before it left.
-- Assumes nothing.
use Prim.Native.Nat.{ℕ, zero, suc, ◌<◌}
use native.Mathlib.Omega.{arith}
use mathlib.Core.Path.{◌≡◌, refl, ap}
use mathlib.Core.List.{List, [], ◌∷◌, ◌++◌}
use lib.ListN.{length, get_or, take}
use Rattle.model.specs.declared.Monitor.{Monitor}
use Rattle.model.specs.Runs.{respond, reply, after, replies}

-- the empty list, and a list of one
pub after_none : (m : Monitor) → (after [] m ≡ m) × (replies [] m ≡ [])
unfolding after replies
after_none m = (refl, refl)

pub after_one : (b : List ℕ) (m : Monitor) → (after (b ∷ []) m ≡ (respond b m).monitor) × (replies (b ∷ []) m ≡ reply b m ∷ [])
unfolding after replies
after_one b m = (refl, refl)

-- one list behind another: "each later one the monitor that the one before it left"
pub after-append : (bs cs : List (List ℕ)) (m : Monitor) → after (bs ++ cs) m ≡ after cs (after bs m)
unfolding after
after-append [] cs m = refl
after-append (b ∷ bs) cs m = after-append bs cs (respond b m).monitor

-- the state after one request more is that of the next one on the state before it, or the list has ended
pub after_next : (P : Monitor → Type 0) (gs : List (List ℕ)) (m : Monitor) (k : ℕ) → P (after (take k gs) m)
    → ((g : List ℕ) → P (respond g (after (take k gs) m)).monitor) → P (after (take (suc k) gs) m)
unfolding after
after_next P [] m zero p f = p
after_next P [] m (suc k) p f = p
after_next P (g ∷ gs) m zero p f = f g
after_next P (g ∷ gs) m (suc k) p f = after_next P gs (respond g m).monitor k p f

pub replies-append : (bs cs : List (List ℕ)) (m : Monitor) → replies (bs ++ cs) m ≡ replies bs m ++ replies cs (after bs m)
unfolding after replies
replies-append [] cs m = refl
replies-append (b ∷ bs) cs m = ap (λ (l : List ℕ). reply b m ∷ l) (replies-append bs cs (respond b m).monitor)

-- one reply for each, and at place i that of element i on the state that the i before it left
pub length-replies : (bs : List (List ℕ)) (m : Monitor) → length (replies bs m) ≡ length bs
unfolding replies
length-replies [] m = refl
length-replies (b ∷ bs) m = ap suc (length-replies bs (respond b m).monitor)

pub replies-at : (bs : List (List ℕ)) (m : Monitor) (i : ℕ) → i < length bs → get_or (replies bs m) i 0 ≡ reply (get_or bs i []) (after (take i bs) m)
unfolding after replies
replies-at [] m i h = absurd (omega arith)
replies-at (b ∷ bs) m zero h = refl
replies-at (b ∷ bs) m (suc i) h = replies-at bs (respond b m).monitor i (omega arith)
