-- The four answers to a page that is asked for, and what each leaves in the buffer.
-- Assumes nothing.
use Prim.Native.Nat.{ℕ, ◌<◌, ◌≤◌}
use mathlib.Core.Path.{◌≡◌, refl, sym, ap, ◌∙◌}
use mathlib.Core.Bool.{true, false}
use mathlib.Core.List.{List}
use lib.ListN.{length}
use borrow.Author.Tests.{lt-ltb, le-ltb}
use Rattle.model.specs.declared.Monitor.{Monitor}
use Rattle.model.specs.declared.Decision.{Decision}
use Rattle.model.specs.declared.Decision.TheVariants.{Granted, MalformedRequest, NotLive, ShortBuffer}
use Rattle.model.specs.Tests.{unless}
use Rattle.model.specs.State.{object_count, object}
use Rattle.model.specs.Decisions.{refuses}
use Rattle.model.specs.Buffers.{front}
use Rattle.model.proofs.Tests.{cond-true, cond-false}
use Rattle.model.proofs.Buffers.{short-is, room-is}
use Rattle.page_lines.specs.Lines.{page_size}
use Rattle.page.specs.Page.{page, paging, paged}

module _ (m : Monitor) (o : ℕ) (buffer : List ℕ) where
  -- refused, "the buffer is untouched"
  pub page-refused-leaves : refuses (paging m o buffer) ≡ true → paged m o buffer ≡ buffer
  unfolding paged
  page-refused-leaves r = cond-true (refuses (paging m o buffer)) buffer _ r

  -- granted, the page stands in front
  pub page-granted-front : paging m o buffer ≡ Granted → paged m o buffer ≡ front page_size (page (object m o)) buffer
  unfolding paged
  page-granted-front g = cond-false (refuses (paging m o buffer)) buffer _ (ap refuses g)

  refused-leaves : (d : Decision) → d ≡ paging m o buffer → refuses d ≡ true → (d ≡ paging m o buffer) × (buffer ≡ paged m o buffer)
  refused-leaves d e r = (e, sym (page-refused-leaves (ap refuses (sym e) ∙ r)))

  -- above 63
  pub page-above : object_count ≤ o → (MalformedRequest ≡ paging m o buffer) × (buffer ≡ paged m o buffer)
  unfolding paging unless
  page-above h = refused-leaves MalformedRequest (rw (le-ltb o object_count h)) refl

  module _ (h : o < object_count) where
    pub page-not-live : (object m o).live ≡ false → (NotLive ≡ paging m o buffer) × (buffer ≡ paged m o buffer)
    unfolding paging unless
    page-not-live l = refused-leaves NotLive (rw (lt-ltb o object_count h, l)) refl

    module _ (l : (object m o).live ≡ true) where
      pub page-short : length buffer < page_size → (ShortBuffer ≡ paging m o buffer) × (buffer ≡ paged m o buffer)
      unfolding paging unless
      page-short n = refused-leaves ShortBuffer (rw (lt-ltb o object_count h, l, short-is page_size buffer n)) refl

      pub page-done : (last : List ℕ) → page_size ≤ length buffer → last ≡ front page_size (page (object m o)) buffer → (Granted ≡ paging m o buffer) × (last ≡ paged m o buffer)
      unfolding paging unless
      page-done last n e =
          let answer : Granted ≡ paging m o buffer = rw (lt-ltb o object_count h, l, room-is page_size buffer n) in
          (answer, e ∙ sym (page-granted-front (sym answer)))
