-- Draws one behind the other, and the requests made of them.
-- Assumes nothing.
use Prim.Native.Nat.{ℕ, zero, suc, ◌+◌, ◌*◌, ◌%◌}
use native.Mathlib.Nat.{zero-add, suc-add}
use native.Mathlib.Omega.{arith}
use mathlib.Core.Path.{◌≡◌, refl, sym, ap, ◌∙◌}
use mathlib.Core.List.{◌++◌, append_assoc, append-nil}
use lib.ListN.{length, length-append}
use Rattle.bits.specs.Bits.{join}
use Rattle.model.specs.declared.Fields.{Fields}
use Rattle.model.specs.Requests.{request_size, pack}
use Rattle.model.proofs.Packing.{pack-length}
use Rattle.test_load.specs.Generator.{xorshift, draw}
use Rattle.test_load.specs.Load.{kind_drawn, other_drawn, mode_drawn, class_drawn, needs_drawn, made, requests_from, bytes_from}

-- first m draws, then n more
pub draw-add : (m n x : ℕ) → draw (m + n) x ≡ draw n (draw m x)
unfolding draw
draw-add zero n x = rw zero-add
draw-add (suc m) n x = rw suc-add (draw-add m n (xorshift x))

-- seven draws, each the next one of the one before it
module _ (x a b c d e f g : ℕ) (pa : a ≡ xorshift x) (pb : b ≡ xorshift a) (pc : c ≡ xorshift b) (pd : d ≡ xorshift c) (pe : e ≡ xorshift d) (pf : f ≡ xorshift e) (pg : g ≡ xorshift f) where
  first : a ≡ draw 1 x
  unfolding draw
  first = pa

  second : b ≡ draw 2 x
  unfolding draw
  second = pb ∙ ap xorshift first

  third : c ≡ draw 3 x
  unfolding draw
  third = pc ∙ ap xorshift second

  fourth : d ≡ draw 4 x
  unfolding draw
  fourth = pd ∙ ap xorshift third

  fifth : e ≡ draw 5 x
  unfolding draw
  fifth = pe ∙ ap xorshift fourth

  sixth : f ≡ draw 6 x
  unfolding draw
  sixth = pf ∙ ap xorshift fifth

  pub seventh : g ≡ draw 7 x
  unfolding draw
  seventh = pg ∙ ap xorshift sixth

  -- the request that they make
  pub made_of : (k t m l n : ℕ) → k ≡ kind_drawn a → t ≡ other_drawn k c → m ≡ mode_drawn k e → l ≡ class_drawn k f → n ≡ needs_drawn k g
      → ◌≡◌ {A = Fields} (record { kind = k; actor = b % 16; other = t; object = d % 64; mode = m; class = l; needs = n; spare = 0 }) (made x)
  unfolding made
  made_of k t m l n pk pt pm pl pn =
      let kind : k ≡ kind_drawn (draw 1 x) = pk ∙ ap kind_drawn first in
      rw (pt, pm, pl, pn, kind, second, third, fourth, fifth, sixth, seventh)

-- one request more
pub bytes-more : (n x : ℕ) → bytes_from (n + 1) x ≡ bytes_from n x ++ pack (made (draw (7 * n) x))
unfolding bytes_from requests_from join draw
bytes-more zero x = append-nil (pack (made x))
bytes-more (suc n) x =
    let sum : 7 + 7 * n ≡ 7 * suc n = omega arith in
    let seven : draw (7 * n) (draw 7 x) ≡ draw (7 * suc n) x = sym (draw-add 7 (7 * n) x) ∙ ap (λ k. draw k x) sum in
    rw (suc-add, bytes-more n (draw 7 x), seven, append_assoc)

pub bytes-length : (n x : ℕ) → length (bytes_from n x) ≡ request_size * n
unfolding bytes_from requests_from join
bytes-length zero x = refl
bytes-length (suc n) x = length-append (pack (made x)) (bytes_from n (draw 7 x)) ∙ omega (arith, pack-length (made x), bytes-length n (draw 7 x))
