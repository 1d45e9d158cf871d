-- How many bytes a page has.
-- Assumes nothing.
use native.Mathlib.Omega.{arith}
use mathlib.Core.Path.{◌≡◌, refl, ◌∙◌}
use lib.ListN.{length, length-append}
use Rattle.model.specs.declared.Object.{Object}
use Rattle.model.specs.State.{subject_count}
use Rattle.page_lines.specs.Lines.{lines, last_line, page_size}
use Rattle.page_lines.proofs.Sizes.{lines-length, last-length}
use Rattle.page.specs.Page.{page}

-- "the page's 258 bytes"
pub page-length : (ob : Object) → length (page ob) ≡ 258
unfolding page
page-length ob = length-append (lines ob subject_count) (last_line ob) ∙ omega (arith, lines-length ob subject_count, last-length ob)

pub page-size : page_size ≡ 258
page-size = refl
