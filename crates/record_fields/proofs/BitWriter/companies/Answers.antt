-- `record_fields::BitWriter::companies` meets its contract.
-- Assumes nothing.
use mathlib.Core.Path.{refl, sym, ap₂, ◌∙◌}
use mathlib.Core.List.{◌++◌}
use Prim.Native.Nat.{ℕ}
use native.Mathlib.Omega.{arith}
use Rattle.bits.specs.Bits.{to_bits}
use Rattle.bits.specs.Laws.{to_bits-split}
use Rattle.bits.specs.Stream.{next, ends}
use Rattle.record_fields.proofs.Streams.{left}
use Rattle.record_fields.proofs.BitWriter.companies.Goals as goal

pub append-requires-2 : goal.append-requires-2
append-requires-2 c = (omega arith, left 8 8 c.append.ensures.wrote c.append.ensures.moves c.requires)

pub returns-clause-wrote : goal.returns-clause-wrote
returns-clause-wrote c = let n = c.args.companies in
    ends _ _ (ap₂ (λ (a b : ℕ). to_bits 8 a ++ to_bits 8 b) c.from.ensures c.from-2.ensures ∙ sym (to_bits-split 8 8 n)) refl (next _ _ refl c.append.ensures.wrote c.append-2.ensures.wrote)
