-- No lowering (change request §3) of a unit that was started or opened, asked and taken back: "Taking back isn't a request" and may lower a label, so
-- this is about the requests that follow.
-- Assumes nothing.
use Prim.Native.Nat.{ℕ, ◌≤◌}
use native.Mathlib.Omega.{arith}
use mathlib.Core.Path.{◌≡◌, refl, sym, ap, ◌∙◌, subst, subst₂}
use mathlib.Core.Logic.{◌≢◌}
use mathlib.Core.Bool.{true}
use mathlib.Core.List.{List, [], map}
use lib.ListN.{get_or, take}
use Rattle.model.specs.Levels.{Label, Dominates}
use Rattle.std.specs.Prelude.{None}
use Rattle.model.specs.declared.Mode.{Mode}
use Rattle.model.specs.declared.Mode.TheVariants.{Read}
use Rattle.model.specs.declared.Monitor.{Monitor}
use Rattle.model.specs.Modes.{observes}
use Rattle.model.specs.State.{widest, clearance, object}
use Rattle.model.specs.Properties.{Holds}
use Rattle.model.specs.Runs.{reply, after}
use Rattle.model.specs.Journal.{Act, asks}
use Rattle.model.specs.Beginnings.{Beginning, table, Accepted, left}
use Rattle.images.proofs.Reached.{reached-left}
use Rattle.effects.proofs.Labels.{label-never-falls, never-published, same-label-replies-1, first-label-replies-0}
use Rattle.unit.specs.Rows.{state_in}
use Rattle.runs.specs.MarkedRun.{level, table_w}
use Rattle.runs.proofs.Lowering.{bytes, state_after, lives-met, labelled-met, raised-met, owner-asks-met}
use Rattle.runs.proofs.Witnesses.{table-met}
use Rattle.journaled.specs.Units.{acted_unit}
use Rattle.capi.specs.UnitRuns.{unit_after, unit_asked}
use Rattle.capi.proofs.UnitRuns.{after-says, asked-says}

-- asked the requests of a list after anything else: takings-back may stand before them, and not among them
module _ (b : Beginning) (l : List Act) (bs : List (List ℕ)) (o i j : ℕ) (h : i ≤ j)
    (live : (k : ℕ) → i ≤ k → k ≤ j → (object (state_in (unit_asked (take k bs) (unit_after b l))) o).live ≡ true)
    (there : (object (state_in (unit_asked (take i bs) (unit_after b l))) o).label ≢ None) where
  label_said : ℕ → Label
  label_said k = (object (state_in (unit_asked (take k bs) (unit_after b l))) o).label

  said : (k : ℕ) → label_said k ≡ (object (after (take k bs) (left b l)) o).label
  unfolding label_said
  said k = ap (λ (m : Monitor). (object m o).label) (asked-says b l (take k bs))

  lived : (k : ℕ) → i ≤ k → k ≤ j → (object (after (take k bs) (left b l)) o).live ≡ true
  lived k p q = sym (ap (λ (m : Monitor). (object m o).live) (asked-says b l (take k bs))) ∙ live k p q

  -- while the object lives, the label that the unit says after j requests dominates that after i
  pub unit-label-never-falls : Dominates (object (state_in (unit_asked (take j bs) (unit_after b l))) o).label (object (state_in (unit_asked (take i bs) (unit_after b l))) o).label
  unfolding label_said
  unit-label-never-falls =
      subst₂ Dominates (sym (said j)) (sym (said i)) (label-never-falls (left b l) bs o i j h lived (λ e. there (said i ∙ e)))

  -- and who reads the object then, by r or w, has a clearance that dominates the earlier label
  pub unit-never-published : Accepted b → (s : ℕ) (x : Mode) → Holds (state_in (unit_asked (take j bs) (unit_after b l))) s o x → observes x ≡ true
      → Dominates (clearance (left b l) s) (object (state_in (unit_asked (take i bs) (unit_after b l))) o).label
  unfolding label_said
  unit-never-published e s x held reads =
      subst (Dominates (clearance (left b l) s)) (sym (said i))
      (never-published (left b l) (reached-left b e l) bs o i j h lived (λ w. there (said i ∙ w)) s x
      (subst (λ (m : Monitor). Holds m s o x) (asked-says b l (take j bs)) held) reads)

-- the hypotheses are met by the run without lowering: object 0 is live after 2 to 13 requests, and its label rises from (3, 0001) to (3, 0003)
said_after : (k : ℕ) → state_in (unit_asked (take k bytes) (unit_after (table widest table_w) [])) ≡ state_after k
unfolding acted_unit
said_after k = after-says (table widest table_w) (map asks (take k bytes))

lives-there : (k : ℕ) → 2 ≤ k → k ≤ 13 → (object (state_in (unit_asked (take k bytes) (unit_after (table widest table_w) []))) 0).live ≡ true
lives-there k p q = ap (λ (m : Monitor). (object m 0).live) (said_after k) ∙ lives-met k p q

labelled-there : (object (state_in (unit_asked (take 2 bytes) (unit_after (table widest table_w) []))) 0).label ≢ None
labelled-there e = labelled-met (sym (ap (λ (m : Monitor). (object m 0).label) (said_after 2)) ∙ e)

pub raised-there : Dominates (object (state_in (unit_asked (take 13 bytes) (unit_after (table widest table_w) []))) 0).label (object (state_in (unit_asked (take 2 bytes) (unit_after (table widest table_w) []))) 0).label
raised-there = unit-label-never-falls (table widest table_w) [] bytes 0 2 13 (omega arith) lives-there labelled-there

pub read-there : Dominates (clearance (left (table widest table_w) []) 1) (object (state_in (unit_asked (take 2 bytes) (unit_after (table widest table_w) []))) 0).label
read-there =
    unit-never-published (table widest table_w) [] bytes 0 2 13 (omega arith) lives-there labelled-there table-met 1 Read
    (subst (λ (m : Monitor). Holds m 1 0 Read) (sym (said_after 13)) raised-met.2) refl

-- the owner's first label and the same label again, the second and the third request of that run
pub first-there : reply (get_or bytes 1 []) (state_after 1) ≡ 0
first-there =
    first-label-replies-0 (state_after 1) (reached-left (table widest table_w) table-met (map asks (take 1 bytes))) (get_or bytes 1 []) 0 (level 3 0x0001)
    owner-asks-met.0 owner-asks-met.2 owner-asks-met.3 (λ p e. absurd (omega (arith, sym owner-asks-met.4 ∙ e)))

pub same-there : reply (get_or bytes 2 []) (state_after 2) ≡ 1
same-there =
    same-label-replies-1 (state_after 2) (reached-left (table widest table_w) table-met (map asks (take 2 bytes))) (get_or bytes 2 []) 0 (level 3 0x0001)
    owner-asks-met.1 (lives-met 2 (omega arith) (omega arith)) raised-met.0
