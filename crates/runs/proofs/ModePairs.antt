-- Two gets of the marked run by the table of mode pairs: one with which each entry is kept, and one with which an entry is not.
-- Assumes nothing.
use Prim.Native.Nat.{ℕ}
use native.Mathlib.Omega.{arith}
use mathlib.Core.Path.{◌≡◌, refl}
use mathlib.Core.Logic.{inl, inr}
use mathlib.Core.List.{[], map}
use lib.ListN.{get_or, take}
use Rattle.model.specs.declared.Mode.TheVariants.{Read, Append}
use Rattle.model.specs.ModePairs.{entry, wanted, Kept, KeptByHeld}
use Rattle.model.specs.Properties.{Holds}
use Rattle.model.specs.State.{widest, object}
use Rattle.model.specs.Journal.{asks}
use Rattle.model.specs.Beginnings.{table, Reached}
use Rattle.model.proofs.Tests.{apart}
use Rattle.model.proofs.Levels.{dominates-decides}
use Rattle.refusals.proofs.ModePairs.{get-by-table}
use Rattle.runs.specs.MarkedRun.{table_w}
use Rattle.runs.proofs.Witnesses.{marked_bytes, state_at, table-met, shown}

reached-at : (k : ℕ) → Reached (state_at k)
reached-at k = record { beginning = table widest table_w; accepted = table-met; list = map asks (take k marked_bytes); reaches = refl }

-- step 8: s1 holds r on o0 and gets a on o1, whose label is above; with each of its accesses the entry is kept
pub step-8-kept : KeptByHeld (state_at 7) 1 1 Append × Holds (state_at 7) 1 0 Read × (entry Read Append ≡ wanted)
step-8-kept =
    let g = get-by-table (state_at 7) (reached-at 7) (get_or marked_bytes 7 []) 1 1 Append shown.above_says in
    ((g (inl (omega (arith, shown.above_granted)))).0.0 (inl (omega (arith, shown.above_granted))), shown.first-held, refl)

-- step 13: s1 wants a on o0 and is refused with 9, so that with one of its accesses the entry is not kept
pub step-13-not-kept : KeptByHeld (state_at 12) 1 0 Append → ⊥
step-13-not-kept =
    (get-by-table (state_at 12) (reached-at 12) (get_or marked_bytes 12 []) 1 0 Append shown.below_says (inr (inl shown.below_refused))).1.0 shown.below_refused

-- it is r on o1: the entry says wanted, and the label of o0 does not dominate that of o1
pub step-13-entry : Holds (state_at 12) 1 1 Read × (entry Read Append ≡ wanted) × (Kept (entry Read Append) (object (state_at 12) 1).label (object (state_at 12) 0).label → ⊥)
step-13-entry = (shown.second_held, refl, λ k. apart ((dominates-decides _ _).1 k) shown.not_above)
