-- A unit is many calls: `circmon_request` in a row, from an accepted image or from one that `circmon_begin` wrote. The numbers are
-- the replies to the list, the bytes left are the image after it, and demand 3 and `circmon_distinguish` hold of them. All under the widest profile.
-- Assumes nothing.
use Prim.Native.Nat.{ℕ, ◌*◌, ◌≤◌}
use native.Mathlib.Omega.{arith}
use mathlib.Core.Path.{◌≡◌, refl, sym, ap, ap₂, ◌∙◌, subst}
use mathlib.Core.Logic.{◌↔◌, ◌≢◌}
use mathlib.Core.Bool.{false}
use mathlib.Core.List.{List, [], ◌∷◌, ◌++◌, map, append-nil}
use lib.ListN.{length, drop, length-map}
use lib.Seq.{drop-length}
use Rattle.bits.specs.Bits.{Bytes, cut, join}
use Rattle.model.specs.declared.Profile.{Profile}
use Rattle.model.specs.declared.Monitor.{Monitor}
use Rattle.model.specs.declared.Request.{Request}
use Rattle.model.specs.declared.Decision.TheVariants.{Granted}
use Rattle.model.specs.declared.Response.{Response}
use Rattle.model.specs.State.{widest}
use Rattle.model.specs.Decisions.{refuses}
use Rattle.model.specs.Requests.{fields_of, encode}
use Rattle.model.specs.Runs.{respond, reply, after, replies}
use Rattle.model.specs.Layout.{image_size, image_of}
use Rattle.model.specs.Reading.{read_table, read_image}
use Rattle.model.specs.Beginnings.{table, image, Accepted, AllBytes}
use Rattle.model.proofs.Tests.{cond-false}
use Rattle.model.proofs.Packing.{pack-length}
use Rattle.runs.specs.Inputs.{SixEach}
use Rattle.telling.specs.Distinguish.{distinguish}
use Rattle.invariants.specs.Sound.{Sound}
use Rattle.invariants.proofs.Steps.{sound-respond, sound-after, respond-profile, profile-kept}
use Rattle.images.proofs.Reached.{sound-begun, begun-profile}
use Rattle.equal_images.proofs.Demand3.{same-replies}
use Rattle.images.proofs.RoundTrips.{image-length, write-0-fills, image-reads}
use Rattle.equal_images.proofs.ToldApart.{written_back, equal-images-told, different-images-told}
use Rattle.runs.proofs.Programs.{cut-whole}
use Rattle.images_apart.specs.Apart.{distinguish_number, distinguish_bytes}
use Rattle.capi.specs.Boundary.{begin_bytes, request_number, request_bytes}
use Rattle.capi.specs.Calls.{numbers, bytes_left}
use Rattle.capi.proofs.Numbers.{begin-0, distinguish-requests}

-- ---- calls on the image of a state

-- one call: the reply, and the image of the state after it
call-image : (m : Monitor) → Sound m → m.profile ≡ widest → (b : List ℕ) → (request_number (image_of m) b ≡ reply b m) × (request_bytes (image_of m) b ≡ image_of (respond b m).monitor)
unfolding request_number request_bytes
call-image m S p b =
    let r : read_image widest (image_of m) ≡ record { decision = Granted; monitor = m } =
    ap (λ (k : Profile). read_image k (image_of m)) (sym p) ∙ image-reads m S in
    let w : refuses (read_image widest (image_of m)).decision ≡ false = ap (λ (k : Response). refuses k.decision) r in
    let state : (read_image widest (image_of m)).monitor ≡ m = ap (λ (k : Response). k.monitor) r in (
      cond-false (refuses (read_image widest (image_of m)).decision) _ _ w ∙ ap (reply b) state,
      cond-false (refuses (read_image widest (image_of m)).decision) _ _ w
          ∙ write-0-fills _ (image_of m) (omega (arith, image-length m))
          ∙ ap₂ (λ (x : Monitor) (rest : List ℕ). image_of (respond b x).monitor ++ rest) state
          (ap (λ (n : ℕ). drop n (image_of m)) (sym (image-length m)) ∙ drop-length (image_of m))
          ∙ append-nil (image_of (respond b m).monitor),
    )

-- a list of calls
calls-image : (bs : List (List ℕ)) (m : Monitor) → Sound m → m.profile ≡ widest → (numbers bs (image_of m) ≡ replies bs m) × (bytes_left bs (image_of m) ≡ image_of (after bs m))
unfolding numbers bytes_left replies after
calls-image [] m S p = (refl, refl)
calls-image (b ∷ bs) m S p =
    let one = call-image m S p b in
    let rest = calls-image bs (respond b m).monitor (sound-respond b m S) (respond-profile b m ∙ p) in (
      ap₂ (λ (n : ℕ) (l : List ℕ). n ∷ l) one.0 (ap (numbers bs) one.1 ∙ rest.0),
      ap (bytes_left bs) one.1 ∙ rest.1,
    )

-- ---- from an accepted image, and from a table

-- "Returns the reply .. and writes the image of the state after the request in place", call after call
pub calls-from-image : (a : List ℕ) → Bytes a → Accepted (image widest a) → (bs : List (List ℕ))
    → (numbers bs a ≡ replies bs (read_image widest a).monitor) × (bytes_left bs a ≡ image_of (after bs (read_image widest a).monitor))
calls-from-image a ha A bs =
    subst (λ (x : List ℕ). (numbers bs x ≡ replies bs (read_image widest a).monitor) × (bytes_left bs x ≡ image_of (after bs (read_image widest a).monitor)))
    (written_back widest a ha A) (calls-image bs (read_image widest a).monitor (sound-begun (image widest a) A) (begun-profile (image widest a) A))

-- the same in a buffer of 1,458 bytes into which `circmon_begin` wrote
pub calls-from-table : (t buffer : List ℕ) → length buffer ≡ image_size → Accepted (table widest t) → (bs : List (List ℕ))
    → (numbers bs (begin_bytes t buffer) ≡ replies bs (read_table widest t).monitor) × (bytes_left bs (begin_bytes t buffer) ≡ image_of (after bs (read_table widest t).monitor))
calls-from-table t buffer size A bs =
    let fresh : begin_bytes t buffer ≡ image_of (read_table widest t).monitor =
    (begin-0 t buffer A (omega (arith, size))).1
    ∙ ap (λ (rest : List ℕ). image_of (read_table widest t).monitor ++ rest) (ap (λ (n : ℕ). drop n buffer) (sym size) ∙ drop-length buffer)
    ∙ append-nil (image_of (read_table widest t).monitor) in
    subst (λ (x : List ℕ). (numbers bs x ≡ replies bs (read_table widest t).monitor) × (bytes_left bs x ≡ image_of (after bs (read_table widest t).monitor)))
    (sym fresh) (calls-image bs (read_table widest t).monitor (sound-begun (table widest t) A) (begun-profile (table widest t) A))

-- ---- demand 3, of calls

-- two buffers after their calls are equal in every byte exactly when every further list of calls returns the same numbers from both
pub equal-bytes-same-numbers : (a b : List ℕ) → Bytes a → Bytes b → Accepted (image widest a) → Accepted (image widest b) → (qs rs : List (List ℕ))
    → (bytes_left qs a ≡ bytes_left rs b)
    ↔ ((further : List (List ℕ)) → AllBytes further → numbers further (bytes_left qs a) ≡ numbers further (bytes_left rs b))
equal-bytes-same-numbers a b ha hb A B qs rs =
    let m = after qs (read_image widest a).monitor in
    let n = after rs (read_image widest b).monitor in
    let M = sound-after qs _ (sound-begun (image widest a) A) in
    let N = sound-after rs _ (sound-begun (image widest b) B) in
    let p = profile-kept qs _ ∙ begun-profile (image widest a) A in
    let q = profile-kept rs _ ∙ begun-profile (image widest b) B in
    let here : bytes_left qs a ≡ image_of m = (calls-from-image a ha A qs).1 in
    let there : bytes_left rs b ≡ image_of n = (calls-from-image b hb B rs).1 in (
      λ e further w. ap (numbers further) e,
      λ h. here
          ∙ ap image_of (same-replies m n M N (p ∙ sym q) (λ further w.
          sym (ap (numbers further) here ∙ (calls-image further m M p).0) ∙ h further w ∙ ap (numbers further) there ∙ (calls-image further n N q).0))
          ∙ sym there,
    )

-- ---- circmon_distinguish, of calls

six-encoded : (l : List Request) → SixEach (map encode l)
six-encoded [] = tt
six-encoded (q ∷ l) = (pack-length (fields_of q), six-encoded l)

cut-encoded : (l : List Request) (rest : List ℕ) → cut (length l) 6 (join (map encode l) ++ rest) ≡ map encode l
unfolding cut
cut-encoded l rest = cut-whole (map encode l) (six-encoded l) (length l) 0 rest (omega (arith, length-map l encode)) ∙ append-nil (map encode l)

-- its requests as byte strings, under any profile: 0 of them where the images are equal; where they differ 1 to 4, to which the states that the two
-- images say reply differently
pub distinguish-replies : (p : Profile) (a b buffer : List ℕ) → Bytes a → Bytes b → Accepted (image p a) → Accepted (image p b) → 24 ≤ length buffer
    → let n = distinguish_number p a b buffer in
    let qs = cut n 6 (distinguish_bytes p a b buffer) in
    (a ≡ b → n ≡ 0) × (a ≢ b → (1 ≤ n) × (n ≤ 4) × (replies qs (read_image p a).monitor ≢ replies qs (read_image p b).monitor))
distinguish-replies p a b buffer ha hb A B room =
    let l = distinguish (read_image p a).monitor (read_image p b).monitor in
    let d = distinguish-requests p a b buffer A B room in
    let qs : cut (distinguish_number p a b buffer) 6 (distinguish_bytes p a b buffer) ≡ map encode l =
    ap₂ (λ (n : ℕ) (x : List ℕ). cut n 6 x) d.0 d.1 ∙ cut-encoded l (drop (6 * length l) buffer) in (
      λ e. d.0 ∙ ap length (equal-images-told p a b A B e),
      λ h.
          let t = different-images-told p a b A B ha hb h in (
            subst (λ (k : ℕ). 1 ≤ k) (sym d.0) (some l t.0),
            subst (λ (k : ℕ). k ≤ 4) (sym d.0) t.1,
            subst (λ (x : List (List ℕ)). replies x (read_image p a).monitor ≢ replies x (read_image p b).monitor) (sym qs) t.2,
          ),
    )
  where
    some : (l : List Request) → l ≢ [] → 1 ≤ length l
    some [] h = absurd (h refl)
    some (q ∷ l) h = omega arith

-- and calls with them return different numbers
pub distinguish-calls : (a b buffer : List ℕ) → Bytes a → Bytes b → Accepted (image widest a) → Accepted (image widest b) → 24 ≤ length buffer
    → let n = distinguish_number widest a b buffer in
    let qs = cut n 6 (distinguish_bytes widest a b buffer) in
    (a ≡ b → n ≡ 0) × (a ≢ b → (1 ≤ n) × (n ≤ 4) × (numbers qs a ≢ numbers qs b))
distinguish-calls a b buffer ha hb A B room =
    let d = distinguish-replies widest a b buffer ha hb A B room in
    let qs = cut (distinguish_number widest a b buffer) 6 (distinguish_bytes widest a b buffer) in (
      d.0,
      λ h. let t = d.1 h in (t.0, t.1, λ e. t.2 (sym (calls-from-image a ha A qs).0 ∙ e ∙ (calls-from-image b hb B qs).0)),
    )
