-- Requests that are put one behind the other.
-- Assumes nothing.
use Prim.Native.Nat.{ℕ, ◌+◌, ◌*◌, ◌≤◌}
use native.Mathlib.Omega.{arith}
use mathlib.Core.Path.{◌≡◌, refl, sym, ap, ◌∙◌}
use mathlib.Core.List.{List, [], ◌∷◌, append-nil}
use lib.ListN.{length, length-append}
use Rattle.bits.specs.Bits.{join}
use Rattle.model.specs.declared.Request.{Request}
use Rattle.model.specs.Requests.{request_size, fields_of, encode}
use Rattle.model.specs.Buffers.{put}
use Rattle.model.proofs.Packing.{pack-length}
use Rattle.model.proofs.Buffers.{put-more}
use Rattle.distinguish.specs.Telling.{bytes_of}

-- a request is put, and then those behind it
pub stored_next : (q : Request) (qs : List Request) (l u t : List ℕ) (i k : ℕ) → i ≤ length l → u ≡ put l i (encode q) → k ≡ i + request_size → t ≡ put u k (bytes_of qs)
    → t ≡ put l i (bytes_of (q ∷ qs))
unfolding bytes_of join
stored_next q qs l u t i k h p e r =
    let next : k ≡ i + length (encode q) = e ∙ ap (λ (n : ℕ). i + n) (sym (pack-length (fields_of q))) in
    r ∙ ap (λ (v : List ℕ). put v k (bytes_of qs)) p ∙ put-more l i (encode q) (bytes_of qs) k next h

-- the last one
pub stored_last : (q : Request) (l t : List ℕ) (i : ℕ) → t ≡ put l i (encode q) → t ≡ put l i (bytes_of (q ∷ []))
unfolding bytes_of join
stored_last q l t i r = r ∙ ap (put l i) (sym (append-nil (encode q)))

pub length-bytes_of : (qs : List Request) → length (bytes_of qs) ≡ request_size * length qs
unfolding bytes_of join
length-bytes_of [] = refl
length-bytes_of (q ∷ qs) = length-append (encode q) (bytes_of qs) ∙ omega (arith, pack-length (fields_of q), length-bytes_of qs)
