-- `start_order::wanted::access_of` meets its contract.
-- Assumes nothing.
use mathlib.Core.Path.{sym, ap, ◌∙◌}
use mathlib.Core.Bool.{Bool, ◌&&◌}
use lib.Dec.{eqb}
use Rattle.start_order.specs.Answers.{access}
use Rattle.start_order.proofs.Trying.{fields-get, fields-other}
use Rattle.start_order.proofs.wanted.access_of.Goals as goal

pub returns-then-well_formed-f : goal.returns-then-well_formed-f
returns-then-well_formed-f c = let p = c.args.p in
    let f = c.args.f in
    ap (access f.actor f.object) c.mode_of.ensures
    ∙ fields-get p f (ap (λ (b : Bool). b && eqb f.kind 1) (sym c.well_formed-2.ensures) ∙ c.if-well_formed-f.true)

pub returns-else-well_formed-f : goal.returns-else-well_formed-f
returns-else-well_formed-f c = let p = c.args.p in
    let f = c.args.f in
    fields-other p f (ap (λ (b : Bool). b && eqb f.kind 1) (sym c.well_formed-2.ensures) ∙ c.if-well_formed-f.false)
