-- `journaled::ask_parts` meets its contract.
-- Assumes nothing.
use Prim.Native.Nat.{ℕ}
use mathlib.Core.Path.{ap, ◌∙◌}
use mathlib.Core.Bool.{cond, ◌&&◌}
use borrow.Author.Rules.{rules}
use Rattle.model.specs.Hierarchy.{has_child}
use Rattle.unit.specs.Rows.{held_row, rest_row, row_at, objects_in}
use Rattle.journal.specs.Stored.{entered_rows, no_entries}
use Rattle.journaled.specs.Units.{deletes}
use Rattle.journaled.proofs.Stored.{asked-0, asked-else}
use Rattle.journaled.proofs.ask_parts.Goals as goal

pub returns-then-reply-eq0 : goal.returns-then-reply-eq0
returns-then-reply-eq0 c =
    let m = c.args.monitor.now in
    let j = c.args.journal.now in
    let name = c.named-o.ensures.object in
    let took = c.takes_children-took.result in
    asked-0 m j (search rules) c.args.bytes.now c.ask.new.unit c.from-reply.result (c.from-reply.ensures ∙ c.ask.ensures.0) c.ask.ensures.1 took c.enter_request.new.journal
    (c.takes_children-took.ensures ∙ ap (λ (o : ℕ). deletes c.args.bytes.now && has_child (objects_in m) o) name) c.if-reply-eq0.true
    (c.enter_request.ensures ∙ ap (λ (o : ℕ). cond took no_entries (entered_rows j o (row_at m o) (row_at m (held_row o)) (row_at m (rest_row o)))) name)

pub returns-else-reply-eq0 : goal.returns-else-reply-eq0
returns-else-reply-eq0 c =
    asked-else c.args.monitor.now c.args.journal.now (search rules) c.args.bytes.now _ _ (c.from-reply.ensures ∙ c.ask.ensures.0) c.ask.ensures.1 c.if-reply-eq0.false
