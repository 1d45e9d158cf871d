-- An entry that is stored step by step.
-- Assumes nothing.
use Prim.Native.Nat.{ℕ, ◌+◌, ◌%◌, min}
use mathlib.Core.Path.{◌≡◌, ap₂, ◌∙◌}
use mathlib.Core.List.{List}
use Rattle.model.specs.Journal.{journal_size}
use Rattle.unit.specs.Rows.{Rows}
use Rattle.journal.specs.Ring.{next_slot, entry_count}
use Rattle.journal.specs.Stored.{set_ring, set_slot, entered_rows}

pub entered_by : (j w x : Rows) (k c m o : ℕ) (rights held rest : List ℕ) → k ≡ next_slot j → c ≡ entry_count j → w ≡ set_slot j k o rights held rest
    → m ≡ min (c + 1) journal_size → x ≡ set_ring w ((k + 1) % journal_size) m → x ≡ entered_rows j o rights held rest
unfolding entered_rows
entered_by j w x k c m o rights held rest a b s u v =
    v ∙ ap₂ (λ (y : Rows) n. set_ring y ((k + 1) % journal_size) n) s u
    ∙ ap₂ (λ i n. set_ring (set_slot j i o rights held rest) ((i + 1) % journal_size) (min (n + 1) journal_size)) a b
