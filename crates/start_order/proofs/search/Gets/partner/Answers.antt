-- `start_order::search::Gets::partner` meets its contract.
-- Assumes nothing.
use native.Mathlib.Omega.{arith}
use mathlib.Core.Path.{refl, sym, ap, ◌∙◌, subst}
use lib.ListN.{length}
use Rattle.model.specs.Program.{pieces}
use Rattle.unit.specs.Rows.{state_in}
use Rattle.model.proofs.Tests.{clash}
use Rattle.start_order.specs.Answers.{Fits, alone}
use Rattle.start_order.proofs.First.{none_more, found_here, found_none}
use Rattle.start_order.proofs.Trying.{wanted-fits}
use Rattle.start_order.proofs.Searching.{is_partner, refused_none, partner-tested}
use Rattle.start_order.proofs.search.Gets.partner.Goals as goal

pub returns-then-not-self-i : goal.returns-then-not-self-i
returns-then-not-self-i c = let G = c.args.self.now in
    let m = state_in G.unit.now in
    let bs = pieces G.requests.now in
    found_none (length bs) _ (length bs) (is_partner m bs c.args.i) refl
    (refused_none m bs c.args.i (sym (G.tried.listed c.args.i c.requires.inside) ∙ c.if-not-self-i.true) (length bs)) (omega arith)

pub returns-in_err-first : goal.returns-in_err-first
unfolding alone
returns-in_err-first c = let G = c.args.self.now in
    clash (sym (sym (G.tried.listed c.args.i c.requires.inside) ∙ c.if-not-self-i.false) ∙ ap (alone (state_in G.unit.now)) (sym c.wanted_at.ensures ∙ c.in_err-first.was))

pub clashes_at-requires : goal.clashes_at-requires
unfolding Fits
clashes_at-requires c = record {
  inside = ((subst Fits (sym c.wanted_at.ensures ∙ c.in_ok-first.was) (wanted-fits _ _)).1, omega (arith, c.loop-j-test.true, c.count-j-end.ensures));
}

pub returns-then-clashes_at : goal.returns-then-clashes_at
returns-then-clashes_at c = let G = c.args.self.now in
    let m = state_in G.unit.now in
    let bs = pieces G.requests.now in
    found_here _ _ c.loop-j.j (is_partner m bs c.args.i) c.count-j-end.ensures c.loop-j.invariant
    (partner-tested m bs c.args.i c.loop-j.j _ _ (sym (G.tried.listed c.args.i c.requires.inside) ∙ c.if-not-self-i.false) (sym c.wanted_at.ensures ∙ c.in_ok-first.was) (omega (arith, c.loop-j.auto.j)) c.clashes_at.ensures ∙ c.if-clashes_at.true)
    c.loop-j-test.true

pub loop-j-preserved : goal.loop-j-preserved
loop-j-preserved c = let G = c.args.self.now in
    let m = state_in G.unit.now in
    let bs = pieces G.requests.now in
    none_more (is_partner m bs c.args.i) c.loop-j.j c.loop-j.invariant
    (partner-tested m bs c.args.i c.loop-j.j _ _ (sym (G.tried.listed c.args.i c.requires.inside) ∙ c.if-not-self-i.false) (sym c.wanted_at.ensures ∙ c.in_ok-first.was) (omega (arith, c.loop-j.auto.j)) c.clashes_at.ensures ∙ c.if-clashes_at.false)

pub returns : goal.returns
returns c = let G = c.args.self.now in
    found_none _ _ c.loop-j.j (is_partner (state_in G.unit.now) (pieces G.requests.now) c.args.i) c.count-j-end.ensures c.loop-j.invariant c.loop-j-test.false
