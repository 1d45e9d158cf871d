-- `start_order::search::Gets::first_clash` meets its contract.
-- Assumes nothing.
use native.Mathlib.Omega.{arith}
use mathlib.Core.Path.{sym, ◌∙◌}
use Rattle.model.specs.Program.{pieces}
use Rattle.unit.specs.Rows.{state_in}
use Rattle.start_order.proofs.Searching.{clash-found, clash-none}
use Rattle.start_order.proofs.search.Gets.first_clash.Goals as goal

pub partner-requires : goal.partner-requires
partner-requires c = record { inside = omega (arith, c.loop-i-test.true, c.count-i-end.ensures) }

pub returns-in-Some : goal.returns-in-Some
returns-in-Some c = let G = c.args.self.now in
    clash-found (state_in G.unit.now) (pieces G.requests.now) _ c.count-i-end.ensures c.loop-i.i _ c.loop-i.invariant c.loop-i-test.true (sym c.partner.ensures ∙ c.in-Some.is)

pub returns : goal.returns
returns c = let G = c.args.self.now in
    clash-none (state_in G.unit.now) (pieces G.requests.now) _ c.count-i-end.ensures c.loop-i.i c.loop-i.invariant c.loop-i-test.false
