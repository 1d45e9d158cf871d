-- Pages of a unit that was started or opened, asked and taken back in any order: they are those of the state after the list, and what they show is permitted.
-- Assumes nothing.
use Prim.Native.Nat.{ℕ, ◌+◌, ◌<◌}
use native.Mathlib.Omega.{arith}
use mathlib.Core.Path.{◌≡◌, sym, ap, ◌∙◌}
use mathlib.Core.Bool.{true, false}
use mathlib.Core.List.{List, map}
use lib.ListN.{take}
use Rattle.model.specs.declared.Mode.{Mode}
use Rattle.model.specs.declared.Mode.TheVariants.{Read}
use Rattle.model.specs.declared.Monitor.{Monitor}
use Rattle.model.specs.Modes.{has}
use Rattle.model.specs.State.{widest, subject_count, object, enrolled}
use Rattle.model.specs.Decisions.{number}
use Rattle.model.specs.Journal.{Act, asks}
use Rattle.model.specs.Beginnings.{Beginning, table, Accepted, left}
use Rattle.model.proofs.Modes.{has-none}
use Rattle.images.proofs.Reached.{reached-left}
use Rattle.effects.proofs.Demand2.{always-secure}
use Rattle.unit.specs.Rows.{state_in}
use Rattle.page_sets.specs.Sets.{dash}
use Rattle.page.specs.Page.{page, paging, paged}
use Rattle.page.specs.Printed.{line_char, place, right_shown, access_shown}
use Rattle.page.proofs.Printed.{right-shown, right-dash, access-shown, access-dash}
use Rattle.runs.specs.MarkedRun.{table_w}
use Rattle.runs.proofs.Witnesses.{marked_bytes, state_at, table-met, shown}
use Rattle.capi.specs.UnitRuns.{unit_after}
use Rattle.capi.proofs.UnitRuns.{after-says}

module _ (b : Beginning) (bs : List Act) where
  -- the number that `circmon_page` returns, and what it leaves in the buffer
  pub unit-paging : (o : ℕ) (buffer : List ℕ) → number (paging (state_in (unit_after b bs)) o buffer) ≡ number (paging (left b bs) o buffer)
  unit-paging o buffer = ap (λ (m : Monitor). number (paging m o buffer)) (after-says b bs)

  pub unit-paged : (o : ℕ) (buffer : List ℕ) → paged (state_in (unit_after b bs)) o buffer ≡ paged (left b bs) o buffer
  unit-paged o buffer = ap (λ (m : Monitor). paged m o buffer) (after-says b bs)

  module _ (e : Accepted b) (o s : ℕ) (h : s < subject_count) where
    -- "an access held is in the matrix": a page shows no access without the right beside it
    pub shown-permitted : (x : Mode) → access_shown (page (object (left b bs) o)) s x ≡ true → right_shown (page (object (left b bs) o)) s x ≡ true
    shown-permitted x w =
        let ob = object (left b bs) o in
        right-shown ob s h x ∙ (always-secure (left b bs) (reached-left b e bs)).1.discretionary s o x (sym (access-shown ob s h x) ∙ w)

    -- "an absent subject .. has no right or access": its line has dashes only
    pub absent-line : enrolled (left b bs) s ≡ false → (x : Mode)
        → (line_char (page (object (left b bs) o)) s (3 + place x) ≡ dash) × (line_char (page (object (left b bs) o)) s (8 + place x) ≡ dash)
    absent-line a x =
        let ob = object (left b bs) o in
        let formed = (always-secure (left b bs) (reached-left b e bs)).0.objects_formed o in
        (right-dash ob s h x (ap (has x) (formed.absent_rights s a) ∙ has-none x), access-dash ob s h x (ap (has x) (formed.absent_held s a) ∙ has-none x))

-- their hypotheses are met by the marked run: after step 5 subject 1 holds r on object 0, and subject 15 is not enrolled
pub shown-met : access_shown (page (object (state_at 5) 0)) 1 Read ≡ true
shown-met = access-shown (object (state_at 5) 0) 1 (omega arith) Read ∙ shown.held-there

pub permitted-there : right_shown (page (object (state_at 5) 0)) 1 Read ≡ true
permitted-there = shown-permitted (table widest table_w) (map asks (take 5 marked_bytes)) table-met 0 1 (omega arith) Read shown-met

pub absent-line-there : line_char (page (object (state_at 5) 0)) 15 3 ≡ dash
absent-line-there = (absent-line (table widest table_w) (map asks (take 5 marked_bytes)) table-met 0 15 (omega arith) shown.absent_there Read).0
