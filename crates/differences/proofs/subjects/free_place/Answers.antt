-- The last free object, found from the back.
-- Assumes nothing.
use Prim.Native.Nat.{ℕ}
use native.Mathlib.Omega.{arith}
use mathlib.Core.Path.{◌≡◌, ap, ap₂, ◌∙◌}
use Rattle.std.proofs.Common.{rules}
use Rattle.std.specs.Bool.{then_some}
use Rattle.model.specs.State.{object}
use Rattle.unit.specs.Rows.{state_in}
use Rattle.telling.specs.Distinguish.{free_below}
use Rattle.differences.specs.Records.{owner_there, free_place}
use Rattle.differences.proofs.LastFree.{last-free, free-within}
use Rattle.differences.proofs.subjects.free_place.Goals as goal
use Rattle.differences.proofs.subjects.free_place.Goals.{After-unwrap_or-object}

is-last : (c : After-unwrap_or-object) → c.unwrap_or-object.result ≡ free_below 64 (state_in c.args.unit.now)
is-last c =
    c.unwrap_or-object.ensures
    ∙ last-free (state_in c.args.unit.now) 64 (λ x r f k. search rules) (λ o t l k. search rules) _ c.rfind-free.ensures.runs

pub is_live-requires : goal.is_live-requires
is_live-requires c = record { o_lt_object_count = omega (arith, is-last c, free-within (state_in c.args.unit.now) 63) }

pub owner_of-requires : goal.owner_of-requires
owner_of-requires c = let o = is-last (goal.at.owner_of-requires c).After-unwrap_or-object in
    record { o_lt_object_count = omega (arith, o, free-within (state_in c.args.unit.now) 63) }

pub owner_of-recorded-requires : goal.owner_of-recorded-requires
owner_of-recorded-requires c = let o = is-last (goal.at.owner_of-recorded-requires c).After-unwrap_or-object in
    record { o_lt_object_count = omega (arith, o, free-within (state_in c.args.unit.now) 63) }

pub returns : goal.returns
unfolding free_place
returns c = let m = state_in c.args.unit.now in
    let o = is-last (goal.at.returns c).After-unwrap_or-object in
    let owner = c.then_some.ensures ∙ ap₂ then_some c.is_live.ensures c.owner_of.ensures ∙ ap (λ (k : ℕ). owner_there (object m k)) o in
    let recorded = c.owner_of-recorded.ensures ∙ ap (λ (k : ℕ). (object m k).owner) o in
    λ i. record { place = record { object = o i; owner = owner i }; recorded = recorded i }
