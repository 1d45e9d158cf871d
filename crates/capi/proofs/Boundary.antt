-- The two answers of each function that reads first: what was read is refused, or it is not.
-- Assumes nothing.
use Prim.Native.Nat.{ℕ, ◌+◌}
use mathlib.Core.Path.{◌≡◌, sym, ap, ◌∙◌}
use mathlib.Core.Bool.{true, false}
use mathlib.Core.List.{List}
use lib.ListN.{length}
use Rattle.model.specs.declared.Monitor.{Monitor}
use Rattle.model.specs.State.{widest}
use Rattle.model.specs.Decisions.{number, refuses}
use Rattle.model.specs.Runs.{respond, reply}
use Rattle.model.specs.Reading.{read_table, read_image}
use Rattle.model.specs.Writing.{writing, written}
use Rattle.model.proofs.Tests.{cond-true, cond-false}
use Rattle.unit.specs.Rows.{Rows, row_count, state_in}
use Rattle.unit.specs.Stored.{unit_of}
use Rattle.unit.proofs.Units.{unit-length}
use Rattle.asking.specs.Asked.{asked}
use Rattle.asking.proofs.Lists.{asked-state}
use Rattle.images_apart.proofs.Answers.{opened-says}
use Rattle.capi.specs.Boundary.{begin_number, begin_bytes, request_number, request_bytes}

-- a unit into which an image was read has all its rows
opened-length : (b : List ℕ) (u : Rows) → u ≡ unit_of (read_image widest b).monitor → length u ≡ row_count
opened-length b u f = ap length f ∙ unit-length (read_image widest b).monitor

module _ (table buffer : List ℕ) where
  pub begin-refused : refuses (read_table widest table).decision ≡ true → (n : ℕ) → n ≡ number (read_table widest table).decision
      → (n ≡ begin_number table buffer) × (buffer ≡ begin_bytes table buffer)
  unfolding begin_number begin_bytes
  begin-refused w n f = (f ∙ sym (cond-true _ _ _ w), sym (cond-true _ _ _ w))

  pub begin-written : refuses (read_table widest table).decision ≡ false → (n : ℕ) → n ≡ number (writing buffer)
      → (last : List ℕ) → last ≡ written (read_table widest table).monitor buffer → (n ≡ begin_number table buffer) × (last ≡ begin_bytes table buffer)
  unfolding begin_number begin_bytes
  begin-written w n f last h = (f ∙ sym (cond-false _ _ _ w), h ∙ sym (cond-false _ _ _ w))

module _ (buffer bytes : List ℕ) where
  pub request-refused : refuses (read_image widest buffer).decision ≡ true → (n : ℕ) → n ≡ number (read_image widest buffer).decision
      → (128 + n ≡ request_number buffer bytes) × (buffer ≡ request_bytes buffer bytes)
  unfolding request_number request_bytes
  request-refused w n f = (ap (λ k. 128 + k) f ∙ sym (cond-true _ _ _ w), sym (cond-true _ _ _ w))

  -- u: the rows of the image, asked the request and then saved
  pub request-carried : refuses (read_image widest buffer).decision ≡ false → (u : Rows) → u ≡ unit_of (read_image widest buffer).monitor
      → (n : ℕ) → n ≡ reply bytes (state_in u) → (v : Rows) → v ≡ asked bytes u
      → (last : List ℕ) → last ≡ written (state_in v) buffer → (n ≡ request_number buffer bytes) × (last ≡ request_bytes buffer bytes)
  unfolding request_number request_bytes
  request-carried w u f n g v h last k =
      let says = opened-says widest buffer u f in
      let left : state_in v ≡ (respond bytes (read_image widest buffer).monitor).monitor =
      ap state_in h ∙ asked-state bytes u (opened-length buffer u f) ∙ ap (λ (m : Monitor). (respond bytes m).monitor) says in (
        g ∙ ap (reply bytes) says ∙ sym (cond-false _ _ _ w),
        k ∙ ap (λ (m : Monitor). written m buffer) left ∙ sym (cond-false _ _ _ w),
      )
