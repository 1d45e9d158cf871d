-- The bytes of the number that a request's fields make are those of the request.
-- Assumes nothing.
use Prim.Native.Nat.{ℕ, zero, suc, ◌+◌, ◌*◌, ◌/◌, ◌^◌}
use native.Mathlib.Nat.{mod-lt}
use native.Mathlib.Omega.{arith}
use mathlib.Core.Path.{◌≡◌, refl, sym, ap, ◌∙◌}
use mathlib.Core.Bool.{Bool}
use mathlib.Core.List.{List, ◌++◌, append_assoc}
use lib.Pow.{pow_pos}
use lib.Seq.{take_at, drop_at}
use Rattle.bits.specs.Bits.{to_bits, bits_to_bytes}
use Rattle.bits.specs.Laws.{length-to_bits, to_bits-split, to_bits-join, to_bits-mod, from_bits-to_bits-mod}
use Rattle.model.specs.declared.Fields.{Fields}
use Rattle.model.specs.Requests.{pack}
use Rattle.encoding.specs.Word.{behind, word_of, word_bytes}

word-bytes : (n word : ℕ) → bits_to_bytes n (to_bits (8 * n) word) ≡ word_bytes n word
unfolding bits_to_bytes word_bytes
word-bytes zero word = refl
word-bytes (suc n) word =
    let e : 8 * suc n ≡ 8 + 8 * n = omega arith in
    let upper = to_bits 8 (word / 2 ^ (8 * n)) in
    let lower = to_bits (8 * n) word in
    rw (
      e,
      to_bits-split 8 (8 * n) word,
      take_at upper lower 8 (length-to_bits 8 (word / 2 ^ (8 * n))),
      drop_at upper lower 8 (length-to_bits 8 (word / 2 ^ (8 * n))),
      from_bits-to_bits-mod 8 (word / 2 ^ (8 * n)),
      word-bytes n word,
    )

behind-bits : (j w high x : ℕ) → to_bits (j + w) (behind high w x) ≡ to_bits j high ++ to_bits w x
behind-bits j w high x = to_bits-join j w high (mod-lt x (pow_pos w)) ∙ ap (λ (l : List Bool). to_bits j high ++ l) (to_bits-mod w x)

-- one field more behind those that are known
more-bits : (j w high x : ℕ) (b : List Bool) → to_bits j high ≡ b → to_bits (j + w) (behind high w x) ≡ b ++ to_bits w x
more-bits j w high x b e = behind-bits j w high x ∙ ap (λ (l : List Bool). l ++ to_bits w x) e

word-bits : (f : Fields) → bits_to_bytes 6 (to_bits 48 (word_of f)) ≡ pack f
unfolding word_of pack
word-bits f =
    ap (bits_to_bytes 6)
    (more-bits 44 4 _ f.spare _ (more-bits 28 16 _ f.needs _ (more-bits 24 4 _ f.class _ (more-bits 21 3 _ f.mode _
    (more-bits 14 7 _ f.object _ (more-bits 9 5 _ f.other _ (more-bits 4 5 _ f.actor _ (to_bits-mod 4 f.kind)))))))
    ∙ simp append_assoc)

-- the six bytes of the fields
pub word-pack : (f : Fields) → word_bytes 6 (word_of f) ≡ pack f
word-pack f = sym (word-bytes 6 (word_of f)) ∙ word-bits f
