-- A byte string leaves every byte without a meaning 0, where it was so.
-- Assumes nothing.
use Prim.Native.Nat.{ℕ}
use mathlib.Core.Path.{◌≡◌, refl}
use mathlib.Core.List.{List}
use lib.ListN.{length}
use Rattle.model.specs.Requests.{Decoded, decode}
use Rattle.std.specs.Prelude.{Some, None}
use Rattle.model.proofs.Requests.{decode-range}
use Rattle.unit.specs.Rows.{Rows, row_count, state_in}
use Rattle.unit.proofs.Plain.{Plain}
use Rattle.kinds.proofs.Plain.{carried-plain}
use Rattle.asking.specs.Asked.{asked_said, asked}

pub asked-plain : (b : List ℕ) (u : Rows) → length u ≡ row_count → Plain u → Plain (asked b u)
unfolding asked
asked-plain b u n F = go (decode (state_in u).profile b) refl
  where
    go : (d : Decoded) → decode (state_in u).profile b ≡ d → Plain (asked_said d u)
    go None e = F
    go (Some q) e = carried-plain q u n (decode-range (state_in u).profile b q e) F
