-- The three answers of a replay, and the buffer after each.
-- Assumes nothing.
use Prim.Native.Nat.{ℕ, ◌<◌, ◌≤◌}
use native.Mathlib.Omega.{arith}
use mathlib.Core.Path.{◌≡◌, refl, sym, ap, ap₂, ◌∙◌}
use mathlib.Core.Bool.{Bool, true, false, cond}
use mathlib.Core.List.{List, ◌++◌}
use lib.ListN.{length, drop}
use lib.Seq.{take_all}
use lib.Dec.{ltb}
use borrow.Author.Tests.{lt-ltb, le-ltb}
use Rattle.model.specs.declared.Decision.{Decision}
use Rattle.model.specs.declared.Decision.TheVariants.{Granted, ShortBuffer}
use Rattle.model.specs.declared.Response.{Response}
use Rattle.model.specs.Decisions.{refuses}
use Rattle.model.specs.Runs.{replies}
use Rattle.model.specs.State.{widest}
use Rattle.model.specs.Reading.{read_table}
use Rattle.model.specs.Program.{pieces, piece_count}
use Rattle.model.proofs.Tests.{cond-true, cond-false}
use Rattle.turns.specs.Turns.{turns}
use Rattle.turns.proofs.Runs.{length-pieces}
use Rattle.replay.specs.Replay.{replay_answer, replayed}

-- a refusal leaves the buffer
left : (table requests out : List ℕ) (d : Decision) → d ≡ replay_answer table requests (length out) → refuses d ≡ true → out ≡ replayed table requests out
unfolding replayed
left table requests out d e r = sym (cond-true (refuses (replay_answer table requests (length out))) _ _ (ap refuses (sym e) ∙ r))

module _ (table requests out : List ℕ) (r : Response) (e : r ≡ read_table widest table) where
  pub table-refused : refuses r.decision ≡ true → (r.decision ≡ replay_answer table requests (length out)) × (out ≡ replayed table requests out)
  unfolding replay_answer
  table-refused w =
      let d = ap (λ (k : Response). k.decision) e in
      let p : r.decision ≡ replay_answer table requests (length out) = d ∙ sym (cond-true (refuses (read_table widest table).decision) _ _ (ap refuses (sym d) ∙ w)) in
      (p, left table requests out r.decision p w)

  -- what is left where the table is accepted
  accepted : refuses r.decision ≡ false → (b : Bool) → ltb (length out) (piece_count (length requests)) ≡ b → cond b ShortBuffer Granted ≡ replay_answer table requests (length out)
  unfolding replay_answer
  accepted w b f =
      ap (λ k. cond k ShortBuffer Granted) (sym f)
      ∙ sym (cond-false (refuses (read_table widest table).decision) _ _ (ap (λ (k : Response). refuses k.decision) (sym e) ∙ w))

  pub no_room : refuses r.decision ≡ false → (k : ℕ) → k ≡ piece_count (length requests) → length out < k
      → (ShortBuffer ≡ replay_answer table requests (length out)) × (out ≡ replayed table requests out)
  no_room w k p h =
      let q = accepted w true (lt-ltb (length out) (piece_count (length requests)) (omega (arith, h, p))) in
      (q, left table requests out ShortBuffer q refl)

  pub room : refuses r.decision ≡ false → (k : ℕ) → k ≡ piece_count (length requests) → k ≤ length out → (last : List ℕ)
      → last ≡ replies (turns requests (length out)) r.monitor ++ drop (length (turns requests (length out))) out
      → (Granted ≡ replay_answer table requests (length out)) × (last ≡ replayed table requests out)
  unfolding replayed
  room w k p h last f =
      let q = accepted w false (le-ltb (length out) (piece_count (length requests)) (omega (arith, h, p))) in
      let all : turns requests (length out) ≡ pieces requests = take_all (length out) (pieces requests) (omega (arith, h, p, length-pieces requests)) in (
        q,
        f ∙ ap₂ (λ ps (m : Response). replies ps m.monitor ++ drop (length ps) out) all e
            ∙ ap (λ n. replies (pieces requests) (read_table widest table).monitor ++ drop n out) (length-pieces requests)
            ∙ sym (cond-false (refuses (replay_answer table requests (length out))) _ _ (ap refuses (sym q))),
      )
