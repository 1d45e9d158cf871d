-- What each number at the boundary means of the inputs, and what it leaves: the cases of the header, one theorem each.
-- Assumes nothing.
use Prim.Native.Nat.{ℕ, ◌+◌, ◌*◌, ◌/◌, ◌<◌, ◌≤◌}
use native.Mathlib.Omega.{arith}
use mathlib.Core.Path.{◌≡◌, refl, sym, ap, ◌∙◌}
use mathlib.Core.Bool.{true}
use mathlib.Core.List.{List, [], ◌∷◌, ◌++◌, map}
use lib.ListN.{length, drop, length-append}
use borrow.Author.Tests.{le-leb, lt-ltb, le-ltb}
use Rattle.bits.specs.Bits.{join}
use Rattle.model.specs.declared.Profile.{Profile}
use Rattle.model.specs.declared.Decision.{Decision}
use Rattle.model.specs.declared.Decision.TheVariants.{Granted, ShortBuffer}
use Rattle.model.specs.State.{widest}
use Rattle.model.specs.Decisions.{number, refuses}
use Rattle.model.specs.Requests.{request_size, encode}
use Rattle.model.specs.Runs.{replies}
use Rattle.model.specs.Layout.{image_size, image_of}
use Rattle.model.specs.Reading.{read_table, read_image}
use Rattle.model.specs.Buffers.{too_short}
use Rattle.model.specs.Writing.{writing}
use Rattle.model.specs.Program.{pieces, piece_count}
use Rattle.model.specs.Beginnings.{table, image, Accepted}
use Rattle.model.proofs.Tests.{cond-true, cond-false}
use Rattle.model.proofs.Buffers.{short-is, room-is, filled-short, filled-front}
use Rattle.runs.specs.Inputs.{SixEach}
use Rattle.telling.specs.Distinguish.{distinguish}
use Rattle.images.proofs.RoundTrips.{write-13-exactly, write-0-exactly, write-13-leaves, write-0-fills}
use Rattle.runs.proofs.Programs.{whole_length, pieces_whole, pieces-short}
use Rattle.replay.specs.Replay.{replay_answer, replayed}
use Rattle.distinguish.specs.Telling.{bytes_of, room_of_four, told_number, told_bytes}
use Rattle.images_apart.specs.Apart.{distinguish_number, distinguish_bytes}
use Rattle.images_apart.proofs.Answers.{first-refused, second-refused, told-apart}
use Rattle.capi.specs.Boundary.{begin_number, begin_bytes, request_number, request_bytes}
use Rattle.capi.proofs.Boundary.{begin-refused, begin-written, request-refused}

-- a number from 2 on is a refusal
refusing : (d : Decision) → 2 ≤ number d → refuses d ≡ true
refusing d h = le-leb 2 (number d) h

-- what is equal to the two sides of a pair, the other way round
turned : {a b : ℕ} {x y : List ℕ} → (a ≡ b) × (x ≡ y) → (b ≡ a) × (y ≡ x)
turned p = (sym p.0, sym p.1)

-- ---- circmon_begin

-- a refused table: its number, and every byte left
pub begin-table-refused : (t buffer : List ℕ) → 2 ≤ number (read_table widest t).decision
    → (begin_number t buffer ≡ number (read_table widest t).decision) × (begin_bytes t buffer ≡ buffer)
begin-table-refused t buffer h = turned (begin-refused t buffer (refusing (read_table widest t).decision h) _ refl)

-- an accepted one and a buffer under 1,458 bytes: 13, and every byte left
pub begin-13 : (t buffer : List ℕ) → Accepted (table widest t) → length buffer < image_size → (begin_number t buffer ≡ 13) × (begin_bytes t buffer ≡ buffer)
begin-13 t buffer A h =
    let p = turned (begin-written t buffer (ap refuses A) _ refl _ refl) in
    (p.0 ∙ (write-13-exactly buffer).1 h, p.1 ∙ write-13-leaves _ buffer h)

-- else 0: the image of the monitor begun from the table in the first 1,458 bytes, and any later byte left
pub begin-0 : (t buffer : List ℕ) → Accepted (table widest t) → image_size ≤ length buffer
    → (begin_number t buffer ≡ 0) × (begin_bytes t buffer ≡ image_of (read_table widest t).monitor ++ drop image_size buffer)
begin-0 t buffer A h =
    let p = turned (begin-written t buffer (ap refuses A) _ refl _ refl) in
    (p.0 ∙ (write-0-exactly buffer).1 h, p.1 ∙ write-0-fills _ buffer h)

-- ---- circmon_request

-- an image that is refused with n: 128 + n, and every byte left
pub request-128 : (buffer bytes : List ℕ) → 2 ≤ number (read_image widest buffer).decision
    → (request_number buffer bytes ≡ 128 + number (read_image widest buffer).decision) × (request_bytes buffer bytes ≡ buffer)
request-128 buffer bytes h = turned (request-refused buffer bytes (refusing (read_image widest buffer).decision h) _ refl)

-- ---- circmon_replay

-- an answer that refuses leaves every byte
replay-left : (t requests out : List ℕ) (d : Decision) → replay_answer t requests (length out) ≡ d → refuses d ≡ true → replayed t requests out ≡ out
unfolding replayed
replay-left t requests out d e w = cond-true (refuses (replay_answer t requests (length out))) _ _ (ap refuses e ∙ w)

-- a refused table: its number, and every byte left
pub replay-table-refused : (t requests out : List ℕ) → 2 ≤ number (read_table widest t).decision
    → (number (replay_answer t requests (length out)) ≡ number (read_table widest t).decision) × (replayed t requests out ≡ out)
unfolding replay_answer
replay-table-refused t requests out h =
    let r = refusing (read_table widest t).decision h in
    let d : replay_answer t requests (length out) ≡ (read_table widest t).decision = cond-true (refuses (read_table widest t).decision) _ _ r in
    (ap number d, replay-left t requests out (read_table widest t).decision d r)

-- an accepted one, and fewer bytes than pieces of six, a short last one counted: 13, and every byte left
pub replay-13 : (t requests out : List ℕ) → Accepted (table widest t) → length out < (length requests + 5) / 6
    → (number (replay_answer t requests (length out)) ≡ 13) × (replayed t requests out ≡ out)
unfolding replay_answer
replay-13 t requests out A h =
    let d : replay_answer t requests (length out) ≡ ShortBuffer =
    cond-false (refuses (read_table widest t).decision) _ _ (ap refuses A) ∙ cond-true _ ShortBuffer Granted (lt-ltb (length out) (piece_count (length requests)) h) in
    (ap number d, replay-left t requests out ShortBuffer d refl)

-- the bytes are these pieces, and there is room for a reply to each: 0, a reply byte for each, and any later byte left
replay-pieces : (t requests out : List ℕ) (ps : List (List ℕ)) → Accepted (table widest t) → pieces requests ≡ ps → (length requests + 5) / 6 ≡ length ps
    → length ps ≤ length out
    → (number (replay_answer t requests (length out)) ≡ 0) × (replayed t requests out ≡ replies ps (read_table widest t).monitor ++ drop (length ps) out)
unfolding replay_answer replayed
replay-pieces t requests out ps A e k h =
    let d : replay_answer t requests (length out) ≡ Granted =
    cond-false (refuses (read_table widest t).decision) _ _ (ap refuses A)
    ∙ cond-false _ ShortBuffer Granted (le-ltb (length out) (piece_count (length requests)) (omega (arith, k, h))) in (
      ap number d,
      cond-false (refuses (replay_answer t requests (length out))) _ _ (ap refuses d)
          ∙ ap (λ (l : List (List ℕ)). replies l (read_table widest t).monitor ++ drop (piece_count (length requests)) out) e
          ∙ ap (λ (n : ℕ). replies ps (read_table widest t).monitor ++ drop n out) k,
    )

-- whole requests
pub replay-0 : (t : List ℕ) (qs : List (List ℕ)) (out : List ℕ) → Accepted (table widest t) → SixEach qs → length qs ≤ length out
    → (number (replay_answer t (join qs) (length out)) ≡ 0) × (replayed t (join qs) out ≡ replies qs (read_table widest t).monitor ++ drop (length qs) out)
replay-0 t qs out A h room = replay-pieces t (join qs) out qs A (pieces_whole qs h) (omega (arith, whole_length qs h)) room

-- and a short last piece behind them, which gets a reply too
pub replay-0-short : (t : List ℕ) (qs : List (List ℕ)) (short out : List ℕ) → Accepted (table widest t) → SixEach qs → 0 < length short → length short < 6
    → length qs < length out
    → (number (replay_answer t (join qs ++ short) (length out)) ≡ 0)
    × (replayed t (join qs ++ short) out ≡ replies (qs ++ (short ∷ [])) (read_table widest t).monitor ++ drop (length (qs ++ (short ∷ []))) out)
replay-0-short t qs short out A h some less room =
    let n = length-append qs (short ∷ []) in
    replay-pieces t (join qs ++ short) out (qs ++ (short ∷ [])) A (pieces-short qs h short some less)
    (omega (arith, n, length-append (join qs) short, whole_length qs h)) (omega (arith, n, room))

-- ---- circmon_distinguish under the widest profile, and circmon_distinguish_in under the one that it is given

-- image a is refused with n: 128 + n; then image b with n: 192 + n; every byte left
pub distinguish-128 : (p : Profile) (a b buffer : List ℕ) → 2 ≤ number (read_image p a).decision
    → (distinguish_number p a b buffer ≡ 128 + number (read_image p a).decision) × (distinguish_bytes p a b buffer ≡ buffer)
distinguish-128 p a b buffer h = turned (first-refused p a b buffer (refusing (read_image p a).decision h) _ refl)

pub distinguish-192 : (p : Profile) (a b buffer : List ℕ) → Accepted (image p a) → 2 ≤ number (read_image p b).decision
    → (distinguish_number p a b buffer ≡ 192 + number (read_image p b).decision) × (distinguish_bytes p a b buffer ≡ buffer)
distinguish-192 p a b buffer A h = turned (second-refused p a b buffer (ap refuses A) (refusing (read_image p b).decision h) _ refl)

-- both are accepted, and the buffer has under 24 bytes: 13, and every byte left
pub distinguish-13 : (p : Profile) (a b buffer : List ℕ) → Accepted (image p a) → Accepted (image p b) → length buffer < 24
    → (distinguish_number p a b buffer ≡ 13) × (distinguish_bytes p a b buffer ≡ buffer)
unfolding told_number told_bytes
distinguish-13 p a b buffer A B h =
    let qs = distinguish (read_image p a).monitor (read_image p b).monitor in
    let r = turned (told-apart p a b buffer (ap refuses A) (ap refuses B) _ _ refl refl _ refl _ refl) in
    (r.0 ∙ cond-true (too_short room_of_four buffer) _ _ (short-is room_of_four buffer h), r.1 ∙ filled-short room_of_four (request_size * length qs) (bytes_of qs) buffer h)

-- else the number of requests, which stand in the first bytes, six for each, and any later byte left
pub distinguish-requests : (p : Profile) (a b buffer : List ℕ) → Accepted (image p a) → Accepted (image p b) → 24 ≤ length buffer
    → let qs = distinguish (read_image p a).monitor (read_image p b).monitor in
    (distinguish_number p a b buffer ≡ length qs) × (distinguish_bytes p a b buffer ≡ join (map encode qs) ++ drop (6 * length qs) buffer)
unfolding told_number told_bytes bytes_of
distinguish-requests p a b buffer A B h =
    let qs = distinguish (read_image p a).monitor (read_image p b).monitor in
    let r = turned (told-apart p a b buffer (ap refuses A) (ap refuses B) _ _ refl refl _ refl _ refl) in
    (r.0 ∙ cond-false (too_short room_of_four buffer) _ _ (room-is room_of_four buffer h), r.1 ∙ filled-front room_of_four (request_size * length qs) (bytes_of qs) buffer h)
