-- What is answered to a page that is asked for: the first cause, in the order 2, 4, 13; and what the buffer then holds.
-- Assumes nothing.
use Prim.Native.Nat.{ℕ}
use native.Mathlib.Omega.{arith}
use mathlib.Core.Path.{◌≡◌, refl, ap, ◌∙◌}
use mathlib.Core.List.{List, [], ◌∷◌}
use lib.ListN.{take, drop}
use borrow.Author.Tests.{ltb-true, ltb-false}
use Rattle.model.specs.declared.Monitor.{Monitor}
use Rattle.model.specs.declared.Decision.TheVariants.{Granted, MalformedRequest, NotLive, ShortBuffer}
use Rattle.model.specs.State.{object_count, object}
use Rattle.model.specs.Buffers.{too_short}
use Rattle.model.proofs.Tests.{apart, not_on, not-off}
use Rattle.model.proofs.Buffers.{is-short, has_room, front-new, front-later}
use Rattle.refusals.specs.First.{AnswersFirst, order_of}
use Rattle.refusals.proofs.First.{answers-end, answers-check}
use Rattle.page_lines.specs.Lines.{page_size}
use Rattle.page.specs.Page.{page, paging, paged}
use Rattle.page.specs.Causes.{page_causes}
use Rattle.page.proofs.Sizes.{page-length}
use Rattle.page.proofs.Paging.{page-granted-front}

module _ (m : Monitor) (o : ℕ) (buffer : List ℕ) where
  -- the answer is the first cause, and 0 exactly where there is none
  pub page-answers : AnswersFirst (page_causes m o buffer) (paging m o buffer)
  unfolding paging
  page-answers =
      answers-check _ MalformedRequest _ _ _ refl (λ e h. absurd (omega (arith, ltb-true o object_count e))) (λ e. omega (arith, ltb-false o object_count e))
      (answers-check _ NotLive _ _ _ refl (λ e h. h e) (λ e h. apart h e)
      (answers-check _ ShortBuffer _ _ _ refl
      (λ e h. absurd (omega (arith, has_room page_size buffer (not_on (too_short page_size buffer) e))))
      (λ e. is-short page_size buffer (not-off (too_short page_size buffer) e))
      answers-end))

  -- "in the order 2, 4, 13"
  pub page-order : order_of (page_causes m o buffer) ≡ 2 ∷ 4 ∷ 13 ∷ []
  page-order = refl

  module _ (w : paging m o buffer ≡ Granted) where
    -- written, the page stands in front
    pub page-written : take 258 (paged m o buffer) ≡ page (object m o)
    page-written = ap (take 258) (page-granted-front m o buffer w) ∙ front-new 258 (page (object m o)) buffer (page-length (object m o))

    -- "and leaves later bytes"
    pub page-leaves-later : drop 258 (paged m o buffer) ≡ drop 258 buffer
    page-leaves-later = ap (drop 258) (page-granted-front m o buffer w) ∙ front-later 258 (page (object m o)) buffer (page-length (object m o))
