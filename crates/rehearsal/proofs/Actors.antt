-- "A request is presented with its task's subject as actor": the five bits of the actor are replaced, and no other bit.
-- Assumes nothing.
use Prim.Native.Nat.{ℕ, ◌^◌, ◌<◌}
use mathlib.Core.Path.{◌≡◌, refl, sym, ap, ◌∙◌}
use mathlib.Core.Bool.{Bool}
use mathlib.Core.List.{List, ◌++◌}
use lib.ListN.{length, take, drop}
use lib.Dec.{eqb}
use borrow.Author.Tests.{eq-eqb}
use Rattle.bits.specs.Bits.{Bytes, to_bits, bytes_to_bits}
use Rattle.bits.specs.Laws.{bytes_to_bits-bits_to_bytes}
use Rattle.model.specs.declared.Profile.{Profile}
use Rattle.model.specs.declared.Fields.{Fields}
use Rattle.model.specs.Requests.{request_size, actor_width, fields, pack, packed_bits, decode_fields, decode}
use Rattle.model.proofs.Tests.{cond-true}
use Rattle.model.proofs.Packing.{fields_fit, pack-length, pack-bytes, fields-packed, packed-fields}
use Rattle.rehearsal.specs.Rounds.{acted_by, with_actor}

pub acted-length : (s : ℕ) (b : List ℕ) → length (with_actor s b) ≡ request_size
unfolding with_actor
acted-length s b = pack-length (acted_by s (fields b))

pub acted-bytes : (s : ℕ) (b : List ℕ) → Bytes (with_actor s b)
unfolding with_actor
acted-bytes s b = pack-bytes (acted_by s (fields b))

-- the fields are those of the request, but for the actor, which is the subject
pub fields-acted : (s : ℕ) (b : List ℕ) → s < 2 ^ actor_width → fields (with_actor s b) ≡ acted_by s (fields b)
unfolding with_actor
fields-acted s b h =
    let F = fields_fit b in
    fields-packed (acted_by s (fields b))
    (record {
      kind = F.kind;
      actor = h;
      other = F.other;
      object = F.object;
      mode = F.mode;
      class = F.class;
      needs = F.needs;
      spare = F.spare;
    })

-- what it says: the actor that stands in the script area is not looked at
pub decode-acted : (p : Profile) (s : ℕ) (b : List ℕ) → s < 2 ^ actor_width → decode p (with_actor s b) ≡ decode_fields p (acted_by s (fields b))
unfolding decode
decode-acted p s b h =
    cond-true (eqb (length (with_actor s b)) request_size) _ _ (eq-eqb (length (with_actor s b)) request_size (acted-length s b))
    ∙ ap (decode_fields p) (fields-acted s b h)

-- with the actor that it has already a request is as it was
pub own-actor : (b : List ℕ) → Bytes b → length b ≡ request_size → with_actor (fields b).actor b ≡ b
unfolding with_actor
own-actor b hb e = packed-fields b hb e

-- whoever was the actor before
pub acted-twice : (s t : ℕ) (b : List ℕ) → t < 2 ^ actor_width → with_actor s (with_actor t b) ≡ with_actor s b
unfolding with_actor
acted-twice s t b h = ap (λ (f : Fields). pack (acted_by s f)) (fields-acted t b h)

-- "kind 4 bits, actor 5": bits 4 to 8 are the subject, and every bit before and behind them is that of the request
pub other-bits-left : (s : ℕ) (b : List ℕ) → Bytes b → length b ≡ request_size
    → bytes_to_bits (with_actor s b) ≡ take 4 (bytes_to_bits b) ++ (to_bits 5 s ++ drop 9 (bytes_to_bits b))
unfolding with_actor pack to_bits
other-bits-left s b hb e =
    let packed = λ (f : Fields). bytes_to_bits-bits_to_bytes 6 (packed_bits f) refl in
    let row : packed_bits (fields b) ≡ bytes_to_bits b = sym (packed (fields b)) ∙ ap bytes_to_bits (packed-fields b hb e) in
    packed (acted_by s (fields b)) ∙ ap (λ (l : List Bool). take 4 l ++ (to_bits 5 s ++ drop 9 l)) row
