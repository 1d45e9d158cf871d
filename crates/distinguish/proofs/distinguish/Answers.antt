-- A buffer that is too short is left; in any other the requests stand in the first bytes.
-- Assumes nothing.
use Prim.Native.Nat.{ℕ, ◌*◌, ◌≤◌, ◌<◌}
use native.Mathlib.Omega.{arith}
use mathlib.Core.Path.{◌≡◌, refl, sym, ap, ◌∙◌}
use mathlib.Core.List.{List, []}
use lib.ListN.{length}
use Rattle.model.specs.declared.Monitor.{Monitor}
use Rattle.model.specs.declared.Request.{Request}
use Rattle.model.specs.declared.Decision.TheVariants.{ShortBuffer}
use Rattle.model.specs.Decisions.{number}
use Rattle.model.specs.Requests.{request_size}
use Rattle.model.specs.Buffers.{too_short, front, put}
use Rattle.model.proofs.Tests.{cond-true, cond-false}
use Rattle.model.proofs.Buffers.{put-none, short-is, room-is, filled-short, filled-front, put_front}
use Rattle.telling.specs.Distinguish.{distinguish}
use Rattle.bits.specs.Bits.{join}
use Rattle.differences.specs.Sequences.{requests_in, requests_of}
use Rattle.distinguish.specs.Telling.{bytes_of, room_of_four, told_number, told_bytes}
use Rattle.distinguish.proofs.Storing.{length-bytes_of}
use Rattle.unit.specs.Rows.{state_in}
use Rattle.distinguish.proofs.distinguish.Goals as goal

short : (m n : Monitor) (s : List ℕ) (k : ℕ) → length s < room_of_four → k ≡ number ShortBuffer → (k ≡ told_number m n s) × (s ≡ told_bytes m n s)
unfolding told_number told_bytes
short m n s k h f =
    let qs = distinguish m n in (
      f ∙ sym (cond-true (too_short room_of_four s) _ _ (short-is room_of_four s h)),
      sym (filled-short room_of_four (request_size * length qs) (bytes_of qs) s h),
    )

long : (m n : Monitor) (s t : List ℕ) (k : ℕ) (qs : List Request) → room_of_four ≤ length s → qs ≡ distinguish m n → k ≡ length qs
    → t ≡ put s 0 (bytes_of qs) → (k ≡ told_number m n s) × (t ≡ told_bytes m n s)
unfolding told_number told_bytes
long m n s t k qs h e f g =
    let all = distinguish m n in (
      f ∙ ap length e ∙ sym (cond-false (too_short room_of_four s) _ _ (room-is room_of_four s h)),
      g ∙ put_front s (bytes_of qs) _ (length-bytes_of qs) ∙ ap (λ (l : List Request). front (request_size * length l) (bytes_of l) s) e
          ∙ sym (filled-front room_of_four (request_size * length all) (bytes_of all) s h),
    )

pub returns-then-out-lt-ROOM : goal.returns-then-out-lt-ROOM
returns-then-out-lt-ROOM c = let args = c.args in
    short (state_in args.a.now) (state_in args.b.now) args.out.now c.from.result (omega (arith, c.if-out-lt-ROOM.true)) c.from.ensures

pub returns-in-None : goal.returns-in-None
unfolding bytes_of join
returns-in-None c = let args = c.args in
    let none = sym (ap requests_of c.in-None.is) ∙ c.sequence_of.ensures in
    long (state_in args.a.now) (state_in args.b.now) args.out.now args.out.now 0 [] (omega arith) none refl (put-none _ 0)

pub returns-in-Some : goal.returns-in-Some
returns-in-Some c = let args = c.args in
    let some = sym (ap requests_of c.in-Some.is) ∙ c.sequence_of.ensures in
    let write = c.write_sequence in
    long (state_in args.a.now) (state_in args.b.now) args.out.now write.new.out write.result (requests_in c.in-Some.found) (omega arith) some write.ensures.0 write.ensures.1
