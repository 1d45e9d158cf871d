-- What the code hands on is nothing or a refusal. Its number is that of the definition's answer, since no answer here is 1, which requests alone get.
-- Assumes nothing.
use Prim.Native.Nat.{ℕ}
use mathlib.Core.Path.{◌≡◌, refl, ap, ◌∙◌}
use mathlib.Core.Logic.{◌⊎◌, inl, inr}
use mathlib.Core.Bool.{Bool, true, false, cond}
use mathlib.Core.List.{List, [], ◌∷◌}
use lib.Dec.{eqb, ltb}
use lib.ListN.{length}
use Rattle.std.specs.Prelude.{Result}
use Rattle.model.specs.declared.Profile.{Profile}
use Rattle.model.specs.declared.Monitor.{Monitor}
use Rattle.model.specs.declared.Decision.{Decision}
use Rattle.model.specs.declared.Decision.TheVariants.{Granted, ShortBuffer}
use Rattle.model.specs.Decisions.{number, refuses, checked, checked_number}
use Rattle.model.specs.Journal.{Entry, taking_back}
use Rattle.model.specs.Layout.{table_size, image_size}
use Rattle.model.specs.Buffers.{too_short}
use Rattle.model.specs.Program.{piece_count}
use Rattle.model.specs.State.{widest, fresh}
use Rattle.model.specs.Reading.{table_from, table_form, monitor_from, image_form, state_list, beginning_list, begin, table_checks, image_checks, read_table, read_image}
use Rattle.model.specs.Writing.{writing}
use Rattle.model.proofs.Checks.{granted-or-refusal}
use Rattle.model.proofs.Checked.{checked-number}
use Rattle.page.specs.Page.{page_checks, paging}
use Rattle.replay.specs.Replay.{replay_answer}

-- an answer of a beginning, of a writing, of a page, of a replay or of a taking-back
abbrev pub Told : Decision → Type 0
Told d = (r : Result (Unit {0}) Decision) (n : ℕ) → n ≡ checked_number r → r ≡ checked d → n ≡ number d

told : (d : Decision) → (d ≡ Granted) ⊎ (refuses d ≡ true) → Told d
told d h r n e f = e ∙ ap checked_number f ∙ checked-number d h

pub told-table : (p : Profile) (b : List ℕ) → Told (read_table p b).decision
unfolding read_table begin table_checks
told-table p b = told _ (granted-or-refusal (beginning_list (eqb (length b) table_size) (table_form b) (fresh p (table_from b)) []) refl)

pub told-image : (p : Profile) (b : List ℕ) → Told (read_image p b).decision
unfolding read_image begin image_checks
told-image p b = told _ (granted-or-refusal (beginning_list (eqb (length b) image_size) (image_form b) (monitor_from p b) (state_list (monitor_from p b))) refl)

short-or-granted : (b : Bool) → (cond b ShortBuffer Granted ≡ Granted) ⊎ (refuses (cond b ShortBuffer Granted) ≡ true)
short-or-granted true = inr refl
short-or-granted false = inl refl

pub told-writing : (buffer : List ℕ) → Told (writing buffer)
unfolding writing
told-writing buffer = told _ (short-or-granted (too_short image_size buffer))

pub told-page : (m : Monitor) (o : ℕ) (buffer : List ℕ) → Told (paging m o buffer)
unfolding paging
told-page m o buffer = told _ (granted-or-refusal (page_checks m o buffer) refl)

pub told-replay : (table requests : List ℕ) (room : ℕ) → Told (replay_answer table requests room)
unfolding replay_answer
told-replay table requests room = told _ (either (refuses (read_table widest table).decision) refl)
  where
    either : (b : Bool) → refuses (read_table widest table).decision ≡ b
        → (cond b (read_table widest table).decision (cond (ltb room (piece_count (length requests))) ShortBuffer Granted) ≡ Granted)
        ⊎ (refuses (cond b (read_table widest table).decision (cond (ltb room (piece_count (length requests))) ShortBuffer Granted)) ≡ true)
    either true e = inr e
    either false e = short-or-granted (ltb room (piece_count (length requests)))

pub told-back : (j : List Entry) → Told (taking_back j)
unfolding taking_back
told-back [] = told _ (inr refl)
told-back (e ∷ j) = told _ (inl refl)
