-- What the program prints, from the values that the code computes.
-- Assumes nothing.
use Prim.Native.Nat.{ℕ, ◌+◌, ◌-◌, ◌/◌, ◌≤◌, ◌<◌, min}
use native.Mathlib.Omega.{arith}
use mathlib.Core.Path.{◌≡◌, sym, ap, ap₂, ◌∙◌}
use mathlib.Core.Logic.{⊎_elim}
use mathlib.Core.Bool.{true, false}
use mathlib.Core.List.{List, [], ◌++◌, map}
use lib.ListN.{length, take, drop, length-take, length-drop, drop_of_length-le}
use lib.Seq.{take_all, take_at, length-take-le}
use Rattle.bits.specs.Bits.{join}
use Rattle.model.specs.declared.Response.{Response}
use Rattle.model.specs.Decisions.{number, refuses}
use Rattle.model.specs.Runs.{replies}
use Rattle.model.specs.Layout.{table_size}
use Rattle.model.specs.State.{widest}
use Rattle.model.specs.Reading.{read_table}
use Rattle.model.specs.Program.{pieces, line, lines_after, program, piece_count}
use Rattle.model.proofs.Tests.{cond-true, cond-false, le-or-lt}
use Rattle.turns.specs.Turns.{turns}
use Rattle.model.proofs.Lists.{length-replies}
use Rattle.turns.proofs.Runs.{taken, length-pieces}
use Rattle.model.specs.Buffers.{put}
use Rattle.replay.proofs.Putting.{line-short, lines-short}

none : (n : ℕ) → take {A = ℕ} n [] ≡ []
none n = take_all n [] (omega arith)

module _ (input : List ℕ) (e : ℕ) (is : e ≡ min table_size (length input)) where
  table-bytes : take (e - 0) (drop 0 input) ≡ take table_size input
  table-bytes =
      let k : e - 0 ≡ min (length input) table_size = omega (arith, is) in
      ap (λ n. take n input) k ∙ taken input table_size

  request-bytes : (l : ℕ) → l ≡ min (length input) (e + 24576) → take (l - e) (drop e input) ≡ take 24576 (drop table_size input)
  request-bytes l p =
      ⊎_elim
      (λ (w : table_size ≤ length input).
      let q : e ≡ table_size = omega (arith, is) in
      let k : l - e ≡ min (length (drop e input)) 24576 = omega (arith, is, p, length-drop e input) in
      ap (λ n. take n (drop e input)) k ∙ taken (drop e input) 24576 ∙ ap (λ n. take 24576 (drop n input)) q)
      (λ (w : length input < table_size).
      ap (take (l - e)) (drop_of_length-le input {i = e} (omega (arith, is))) ∙ none (l - e) ∙ sym (ap (take 24576) (drop_of_length-le input {i = table_size} (omega arith)) ∙ none 24576))
      (le-or-lt table_size (length input))

  module _ (r : Response) (read : r ≡ read_table widest (take (e - 0) (drop 0 input))) where
    read_is : r ≡ read_table widest (take table_size input)
    read_is = read ∙ ap (read_table widest) table-bytes

    -- a refused table: its number
    pub prints-refusal : refuses r.decision ≡ true → (n : ℕ) → n ≡ number r.decision → (zeros last : List ℕ) (k : ℕ) → last ≡ put zeros 0 (line n)
        → k ≡ 0 + length (line n) → (last ≡ put zeros 0 (program input)) × (k ≡ length (program input)) × (k ≤ 12288)
    unfolding program lines_after
    prints-refusal w n p zeros last k f g =
        let q : line n ≡ program input =
        ap line (p ∙ ap (λ (x : Response). number x.decision) read_is)
        ∙ sym (cond-true (refuses (read_table widest (take table_size input)).decision) _ _ (ap (λ (x : Response). refuses x.decision) (sym read_is) ∙ w)) in
        (f ∙ ap (put zeros 0) q, g ∙ (let z : 0 + length (line n) ≡ length (line n) = omega arith in z) ∙ ap length q, omega (arith, g, line-short n))

    -- else a line for each reply
    pub prints-replies : refuses r.decision ≡ false → (l : ℕ) → l ≡ min (length input) (e + 24576) → (blank out : List ℕ) → length blank ≡ 4096
        → out ≡ replies (turns (take (l - e) (drop e input)) (length blank)) r.monitor ++ drop (length (turns (take (l - e) (drop e input)) (length blank))) blank
        → (c : ℕ) → c ≡ piece_count (l - e) → (zeros last : List ℕ) (k : ℕ)
        → last ≡ put zeros 0 (join (map line (take c out))) → k ≡ length (join (map line (take c out)))
        → (last ≡ put zeros 0 (program input)) × (k ≡ length (program input)) × (k ≤ 12288)
    unfolding program lines_after
    prints-replies w l p blank out b f c g zeros last k h j =
        let bytes = take (l - e) (drop e input) in
        let size : length bytes ≡ l - e = length-take-le (l - e) (drop e input) (omega (arith, p, is, length-drop e input)) in
        let count : length (pieces bytes) ≡ c = length-pieces bytes ∙ ap (λ n. (n + 5) / 6) size ∙ sym g in
        let room : c ≤ 4096 = omega (arith, p, is, g) in
        let all : turns bytes (length blank) ≡ pieces bytes = take_all (length blank) (pieces bytes) (omega (arith, count, room, b)) in
        let front : take c out ≡ replies (pieces bytes) r.monitor =
        ap (take c) (f ∙ ap (λ ps. replies ps r.monitor ++ drop (length ps) blank) all)
        ∙ take_at (replies (pieces bytes) r.monitor) (drop (length (pieces bytes)) blank) c (length-replies (pieces bytes) r.monitor ∙ count) in
        let q : join (map line (take c out)) ≡ program input =
        ap (λ x. join (map line x))
        (front ∙ ap₂ (λ y (x : Response). replies (pieces y) x.monitor) (request-bytes l p) read_is)
        ∙ sym (cond-false (refuses (read_table widest (take table_size input)).decision) _ _ (ap (λ (x : Response). refuses x.decision) (sym read_is) ∙ w)) in
        (h ∙ ap (put zeros 0) q, j ∙ ap length q, omega (arith, j, room, lines-short (take c out), length-take c out))
