-- `numbers::order_number` meets its contract.
-- Assumes nothing.
use Prim.Native.Nat.{◌+◌, ◌*◌, ◌^◌}
use mathlib.Core.Path.{sym, ap, ap₂, ◌∙◌}
use Rattle.numbers.specs.Orders.{order_number}
use Rattle.numbers.proofs.order_number.Goals as goal

pub returns-in-Agree : goal.returns-in-Agree
unfolding order_number
returns-in-Agree c = sym (ap order_number c.in-Agree.is)

pub returns-in-Clash : goal.returns-in-Clash
unfolding order_number
returns-in-Clash c = ap₂ (λ m n. 1 + 256 * m + 2 ^ 32 * n) c.place_bits.ensures c.place_bits-in-Clash.ensures ∙ sym (ap order_number c.in-Clash.is)

pub returns-in-NoGet : goal.returns-in-NoGet
unfolding order_number
returns-in-NoGet c = ap (λ n. 2 + 256 * n) c.place_bits-in-NoGet.ensures ∙ sym (ap order_number c.in-NoGet.is)

pub returns-in-TooMany : goal.returns-in-TooMany
unfolding order_number
returns-in-TooMany c = sym (ap order_number c.in-TooMany.is)
