-- `page::page` meets its contract.
-- Assumes nothing.
use Prim.Native.Nat.{ℕ}
use native.Mathlib.Omega.{arith}
use mathlib.Core.Path.{◌≡◌, sym, ap, ap₂, ◌∙◌}
use Rattle.model.specs.Decisions.{checked}
use mathlib.Core.List.{List, ◌++◌}
use Rattle.model.specs.declared.Object.{Object}
use Rattle.model.specs.State.{subject_count, object}
use Rattle.model.specs.Buffers.{put, front}
use Rattle.model.proofs.Buffers.{put-more, put_front}
use Rattle.unit.specs.Rows.{state_in}
use Rattle.page_lines.specs.Lines.{page_size, lines, last_line}
use Rattle.page.specs.Page.{page}
use Rattle.page_lines.proofs.Sizes.{lines-length}
use Rattle.page.proofs.Sizes.{page-length}
use Rattle.page.proofs.Paging.{page-above, page-not-live, page-short, page-done}
use Rattle.page.proofs.page.Goals as goal

page-put : (out : List ℕ) (ob : Object) → put (put out 0 (lines ob subject_count)) 240 (last_line ob) ≡ front page_size (page ob) out
unfolding page
page-put out ob =
    put-more out 0 (lines ob subject_count) (last_line ob) 240 (omega (arith, lines-length ob subject_count)) (omega arith)
    ∙ put_front out (lines ob subject_count ++ last_line ob) page_size (page-length ob)

pub returns-then-o-ge-OBJECTS : goal.returns-then-o-ge-OBJECTS
unfolding checked
returns-then-o-ge-OBJECTS c = let r = page-above _ _ _ (omega (arith, c.if-o-ge-OBJECTS.true)) in (ap checked r.0, r.1)

pub returns-then-not-is_live : goal.returns-then-not-is_live
unfolding checked
returns-then-not-is_live c = let r = page-not-live _ _ _ (omega (arith, c.if-o-ge-OBJECTS.false)) (sym c.is_live.ensures ∙ c.if-not-is_live.true) in (ap checked r.0, r.1)

pub returns-then-out-lt-PAGE_BYTES : goal.returns-then-out-lt-PAGE_BYTES
unfolding checked
returns-then-out-lt-PAGE_BYTES c = let r = page-short _ _ _ (omega (arith, c.if-o-ge-OBJECTS.false)) (sym c.is_live.ensures ∙ c.if-not-is_live.false) (omega (arith, c.if-out-lt-PAGE_BYTES.true)) in (ap checked r.0, r.1)

pub returns : goal.returns
unfolding checked
returns c =
    let ob = object (state_in c.args.unit.now) c.args.o in
    let r = page-done _ _ _ (omega (arith, c.if-o-ge-OBJECTS.false)) (sym c.is_live.ensures ∙ c.if-not-is_live.false) _ (omega (arith, c.if-out-lt-PAGE_BYTES.false))
    (c.put_bytes.ensures ∙ ap₂ (λ x y. put x 240 y) c.put_lines.ensures c.last_line-last.ensures
    ∙ page-put c.args.out.now ob) in
    (ap checked r.0, r.1)
