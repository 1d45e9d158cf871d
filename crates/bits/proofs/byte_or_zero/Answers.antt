-- `bits::byte_or_zero` meets its contract.
-- Assumes nothing.
use mathlib.Core.Path.{◌≡◌, sym, ◌∙◌}
use native.Mathlib.Nat.{mod-eq_of_lt}
use native.Mathlib.Omega.{arith}
use lib.ListN.{get_or}
use borrow.Author.Rules.{rules}
use Rattle.bits.specs.Fields.{field-byte}
use Rattle.bits.proofs.byte_or_zero.Goals as goal

pub returns : goal.returns
returns c = let a = c.args in
    let e : c.from.result ≡ get_or a.s.now a.i 0 = search rules in
    e ∙ sym (field-byte a.s.now a.i ∙ mod-eq_of_lt (omega (arith, e)))
