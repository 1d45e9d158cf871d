-- The image of a monitor begun from an accepted table: the bytes of the table, and zeros.
-- Assumes nothing.
use Rattle.std.specs.Prelude.{Ok, Err}
use Prim.Native.Nat.{ℕ, zero, suc, ◌<◌, ◌≤◌}
use mathlib.Core.Path.{◌≡◌, refl, sym, ap, ap₂, ◌∙◌}
use mathlib.Core.Logic.{⊎_elim}
use mathlib.Core.Bool.{Bool, true, false, cond}
use mathlib.Core.List.{List, [], ◌∷◌, ◌++◌}
use native.Mathlib.Omega.{arith}
use borrow.Author.Tests.{eqb-true}
use lib.Dec.{eqb, lit<}
use lib.ListN.{length, get_or, drop, replicate, length-append, length-replicate}
use native.Mathlib.Nat.{zero-add}
use Rattle.bits.specs.Bits.{Bytes, bytes_to_bits, bits_to_bytes, join, to_bits, odd}
use Rattle.bits.specs.Laws.{bytes_to_bits-append, bits_to_bytes-bytes_to_bits}
use Rattle.model.specs.declared.Decision.TheVariants.{Granted, WrongLength, StrayBits}
use Rattle.model.specs.declared.Response.{Response}
use Rattle.model.specs.State.{widest, object_count, no_object, empty_monitor, fresh}
use Rattle.model.specs.Buffers.{put}
use Rattle.model.specs.Tests.{unless}
use Rattle.model.specs.Decisions.{refuses, checked}
use Rattle.model.specs.Layout.{table_size, objects_size, image_size, label_bits, sets_bits, object_bits, objects_bits, image_bits, image_of}
use Rattle.model.specs.Reading.{table_from, table_form, begin, read_table}
use Rattle.model.specs.Writing.{writing, written}
use Rattle.model.proofs.Tests.{split, cond-false, passed, apart}
use Rattle.model.proofs.Checks.{granted-or-refusal}
use Rattle.model.proofs.Checked.{passes}
use Rattle.model.proofs.Buffers.{writing-done}
use Rattle.image_records.specs.declared.TableRead.{TableRead}
use Rattle.image_records.specs.Records.{subjects_read}
use Rattle.images.specs.Base.{base_table}
use Rattle.images.proofs.Widest.{table-widest}
use Rattle.images.proofs.Trips.{subjects-written}

-- the bytes of the object records where no object is live
abbrev zeros : List ℕ
zeros = replicate objects_size 0

-- bytes put in front
put-front : (s b : List ℕ) → put s 0 b ≡ b ++ drop (length b) s
unfolding put
put-front s b = ap (λ (n : ℕ). b ++ drop n s) (zero-add (length b))

no-objects : objects_bits (replicate object_count no_object) ≡ bytes_to_bits zeros
unfolding join bytes_to_bits object_bits label_bits sets_bits to_bits odd
no-objects = refl

-- zeros behind bytes are bytes
with-zeros : (n : ℕ) (b : List ℕ) → Bytes b → Bytes (b ++ replicate n 0)
with-zeros n [] h i = none n i
  where
    none : (n i : ℕ) → get_or (replicate n 0) i 0 < 256
    none zero i = lit< tt
    none (suc n) zero = lit< tt
    none (suc n) (suc i) = none n i
with-zeros n (x ∷ b) h zero = h 0
with-zeros n (x ∷ b) h (suc i) = with-zeros n b (λ j. h (suc j)) i

-- the answer without a profile
answer : (b : List ℕ) → (read_table widest b).decision ≡ base_table b
unfolding begin
answer b = ap (λ (r : Response). r.decision) (table-widest b)

module _ (b : List ℕ) (accepted : checked (read_table widest b).decision ≡ Ok tt) where
  granted : base_table b ≡ Granted
  unfolding base_table
  granted = ⊎_elim (λ e. e) (λ r. apart r (sym (ap refuses (answer b)) ∙ passes (read_table widest b).decision accepted)) (granted-or-refusal ((eqb (length b) table_size, WrongLength) ∷ (table_form b, StrayBits) ∷ []) refl)

  pub size : length b ≡ table_size
  unfolding base_table
  size = eqb-true (length b) table_size (passed _ WrongLength _ refl granted).0

  formed : table_form b ≡ true
  unfolding base_table
  formed = (passed _ StrayBits _ refl (passed _ WrongLength _ refl granted).1).0

  begun-monitor : (read_table widest b).monitor ≡ fresh widest (table_from b)
  unfolding begin
  begun-monitor =
      ap (λ (r : Response). r.monitor) (table-widest b) ∙ cond-false (refuses (base_table b)) empty_monitor (fresh widest (table_from b)) (ap refuses granted)

  full : length (b ++ zeros) ≡ image_size
  full = length-append b zeros ∙ omega (arith, size, length-replicate {A = ℕ} objects_size 0)

  pub begun-bytes : Bytes b → image_of (read_table widest b).monitor ≡ b ++ zeros
  unfolding image_of image_bits
  begun-bytes hb =
      let bits : image_bits (fresh widest (table_from b)) ≡ bytes_to_bits (b ++ zeros) =
      ap₂ (λ (x y : List Bool). x ++ y) (subjects-written b size formed) no-objects ∙ sym (bytes_to_bits-append b zeros) in
      ap image_of begun-monitor ∙ ap (bits_to_bytes image_size) bits
      ∙ bits_to_bytes-bytes_to_bits image_size (b ++ zeros) (with-zeros objects_size b hb) full

  -- the buffer after the table was put into zeros, and these to the front of it
  pub begun-put : Bytes b → (buffer image last : List ℕ) → image_size ≤ length buffer → image ≡ put (replicate image_size 0) 0 b
      → last ≡ put buffer 0 image → (Granted ≡ writing buffer) × (last ≡ written (read_table widest b).monitor buffer)
  begun-put hb buffer image last h e f =
      let whole : image ≡ b ++ zeros = e ∙ put-front (replicate image_size 0) b ∙ ap (λ (n : ℕ). b ++ drop n (replicate {A = ℕ} image_size 0)) size in
      let first = whole ∙ sym (begun-bytes hb) in
      let behind = ap (λ (n : ℕ). drop n buffer) (ap length whole ∙ full) in
      writing-done (read_table widest b).monitor buffer last h (f ∙ put-front buffer image ∙ ap₂ (λ (x y : List ℕ). x ++ y) first behind)

-- checks 10 and 11, of what was read of the table
decided : (b : Bool) (x y : TableRead) → unless b WrongLength (unless (cond b x y).formed StrayBits Granted) ≡ unless b WrongLength (unless x.formed StrayBits Granted)
unfolding unless
decided true x y = refl
decided false x y = refl

pub checks-decision : (s : List ℕ) → unless (eqb (length s) table_size) WrongLength (unless (subjects_read s).formed StrayBits Granted) ≡ (read_table widest s).decision
unfolding base_table subjects_read
checks-decision s = decided (eqb (length s) table_size) _ _ ∙ sym (answer s)

-- and as what the code answers
either : (b : Bool) (x y : TableRead) → cond b (cond (cond b x y).formed (Ok tt) (Err StrayBits)) (Err WrongLength) ≡ checked (unless b WrongLength (unless x.formed StrayBits Granted))
unfolding checked unless
either true x y = split x.formed (λ t. rw t) (λ f. rw f)
either false x y = refl

pub checks-answer : (s : List ℕ) → cond (eqb (length s) table_size) (cond (subjects_read s).formed (Ok tt) (Err StrayBits)) (Err WrongLength) ≡ checked (read_table widest s).decision
unfolding base_table subjects_read
checks-answer s = either (eqb (length s) table_size) _ _ ∙ ap checked (sym (answer s))
