-- `journaled::ask` meets its contract.
-- Assumes nothing.
use mathlib.Core.Path.{ap, ◌∙◌}
use Rattle.std.proofs.lemmas.Option.{MatchOption-at_some}
use Rattle.model.specs.Runs.{reply}
use Rattle.unit.specs.Rows.{Rows, state_in}
use Rattle.journaled.specs.Units.{asked_unit}
use Rattle.journaled.proofs.Parts.{put-together}
use Rattle.journaled.proofs.ask.Goals as goal

pub returns : goal.returns
returns c =
    let first = MatchOption-at_some _ _ _ c.unwrap.ensures c.split_first_chunk_mut.ensures.cases in
    let behind = MatchOption-at_some _ _ _ c.unwrap-2.ensures c.as_mut_array.ensures.cases in
    let whole = put-together c.args.unit.now.rows _ _ _ first.0 first.1 behind.same in
    (c.ask_parts.ensures.0 ∙ ap (λ (u : Rows). reply c.args.bytes.now (state_in u)) whole, c.ask_parts.ensures.1 ∙ ap (asked_unit c.args.bytes.now) whole)
