-- A unit that was begun and then asked and taken back: in every byte its rows before the journal are those of the monitor that it says.
-- Assumes nothing.
use Prim.Native.Nat.{ℕ}
use native.Mathlib.Omega.{arith}
use mathlib.Core.Path.{◌≡◌, sym, ap, ◌∙◌, subst}
use mathlib.Core.List.{List, [], ◌∷◌}
use lib.Dec.{eqb}
use Rattle.model.specs.declared.Monitor.{Monitor}
use Rattle.model.specs.Journal.{Journaled, without_entries, Act, asks, takes_back, acted}
use Rattle.model.proofs.Tests.{cond-all}
use Rattle.unit.specs.Rows.{Rows, state_in}
use Rattle.unit.specs.Stored.{set_object, unit_of}
use Rattle.unit.proofs.Stores.{object-length}
use Rattle.unit.proofs.Units.{unit-length}
use Rattle.unit.proofs.Plain.{Plain, unit-plain, object-plain, plain-is}
use Rattle.asking.specs.Asked.{asked}
use Rattle.asking.proofs.Lists.{asked-length}
use Rattle.asking.proofs.Plain.{asked-plain}
use Rattle.journal.specs.Ring.{entry_count}
use Rattle.journal.specs.Stored.{left_rows, no_entries}
use Rattle.journaled.specs.Units.{monitor_part, journal_part, said_by, begun_rows, asked_unit, latest_in, restored_unit, taken_unit, acted_unit}
use Rattle.journaled.proofs.Parts.{monitor-length, parts-put, monitor-says}
use Rattle.journaled.proofs.Said.{WholeUnit, ask-whole, taken-whole, acted-whole, acted-said, begun-whole, begun-said}

ask-plain : (b : List ℕ) (u : Rows) → WholeUnit u → Plain (monitor_part u) → Plain (monitor_part (asked_unit b u))
unfolding asked_unit
ask-plain b u U F =
    let n = monitor-length u U.rows in
    subst Plain (sym (parts-put (asked b (monitor_part u)) _ (asked-length b (monitor_part u) ∙ n)).0) (asked-plain b (monitor_part u) n F)

taken-plain : (u : Rows) → WholeUnit u → Plain (monitor_part u) → Plain (monitor_part (taken_unit u))
unfolding taken_unit restored_unit
taken-plain u U F =
    let n = monitor-length u U.rows in
    let e = latest_in u in
    cond-all (λ (w : Rows). Plain (monitor_part w)) (eqb (entry_count (journal_part u)) 0) u _ (λ none. F)
    (λ some. subst Plain (sym (parts-put (set_object (monitor_part u) e.place e.was) (left_rows (journal_part u)) (object-length (monitor_part u) e.place e.was n (omega arith))).0)
    (object-plain (monitor_part u) n F e.place (omega arith) e.was))

acted-plain : (l : List Act) (u : Rows) → WholeUnit u → Plain (monitor_part u) → Plain (monitor_part (acted_unit l u))
unfolding acted_unit
acted-plain [] u U F = F
acted-plain (asks b ∷ l) u U F = acted-plain l (asked_unit b u) (ask-whole u U b) (ask-plain b u U F)
acted-plain (takes_back ∷ l) u U F = acted-plain l (taken_unit u) (taken-whole u U) (taken-plain u U F)

module _ (l : List Act) (m : Monitor) (begun : state_in (unit_of m) ≡ m) where
  -- what it says
  pub begun-acted : said_by (acted_unit l (begun_rows m)) ≡ acted l (without_entries m)
  begun-acted = acted-said l (begun_rows m) (begun-whole m) ∙ ap (acted l) (begun-said m ∙ ap without_entries begun)

  -- and its rows
  pub begun-rows : monitor_part (acted_unit l (begun_rows m)) ≡ unit_of (acted l (without_entries m)).monitor
  unfolding said_by begun_rows
  begun-rows =
      let u = acted_unit l (begun_rows m) in
      let F : Plain (monitor_part (begun_rows m)) = subst Plain (sym (parts-put (unit_of m) no_entries (unit-length m)).0) (unit-plain m) in
      plain-is (monitor_part u) (monitor-length u (acted-whole l (begun_rows m) (begun-whole m)).rows) (acted-plain l (begun_rows m) (begun-whole m) F)
      ∙ ap unit_of (monitor-says u ∙ ap (λ (j : Journaled). j.monitor) begun-acted)
