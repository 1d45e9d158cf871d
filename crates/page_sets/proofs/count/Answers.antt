-- `page_sets::count` meets its contract: the four numbers are those of the four modes.
-- Assumes nothing.
use Rattle.std.proofs.Common.{◌≡◌, arith, ap, sym, ◌∙◌, ◌+◌, slice_index_or}
use Rattle.std.proofs.lemmas.Grind.{common_steps}
use Rattle.std.specs.Prelude.{map}
use Rattle.bits.specs.Bits.{bit}
use Rattle.model.specs.Modes.{has}
use Rattle.page_sets.specs.Sets.{modes, mode_count}
use Rattle.page_sets.proofs.Counts.{over-modes}
use Rattle.page_sets.proofs.count.Goals as goal

pub returns : goal.returns
unfolding mode_count
returns c = let set = c.args.set in
    let numbers : c.map.result ≡ map (λ x. bit (has x set)) modes = grind (arith, common_steps) in
    ap (λ l. slice_index_or l 0 0 + slice_index_or l 1 0 + slice_index_or l 2 0 + slice_index_or l 3 0) numbers
    ∙ sym (over-modes (λ x. bit (has x set)))
