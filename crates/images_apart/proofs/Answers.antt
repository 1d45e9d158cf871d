-- The answers on two images: the first is refused, or the second, or their states are told apart.
-- Assumes nothing.
use Prim.Native.Nat.{ℕ, ◌+◌}
use mathlib.Core.Path.{◌≡◌, sym, ap, ap₂, ◌∙◌}
use mathlib.Core.Bool.{true, false}
use mathlib.Core.List.{List}
use Rattle.model.specs.declared.Profile.{Profile}
use Rattle.model.specs.declared.Monitor.{Monitor}
use Rattle.model.specs.Decisions.{number, refuses}
use Rattle.model.specs.Reading.{read_image}
use Rattle.model.specs.Beginnings.{image}
use Rattle.model.proofs.Tests.{cond-true, cond-false}
use Rattle.unit.specs.Rows.{Rows, state_in}
use Rattle.unit.specs.Stored.{unit_of}
use Rattle.image.proofs.Sizes.{begun-says}
use Rattle.distinguish.specs.Telling.{told_number, told_bytes}
use Rattle.images_apart.specs.Apart.{distinguish_number, distinguish_bytes}

-- a unit into which an image was read says its monitor
pub opened-says : (p : Profile) (b : List ℕ) (u : Rows) → u ≡ unit_of (read_image p b).monitor → state_in u ≡ (read_image p b).monitor
opened-says p b u f = ap state_in f ∙ begun-says (image p b)

module _ (p : Profile) (a b buffer : List ℕ) where
  pub first-refused : refuses (read_image p a).decision ≡ true → (k : ℕ) → k ≡ number (read_image p a).decision
      → (128 + k ≡ distinguish_number p a b buffer) × (buffer ≡ distinguish_bytes p a b buffer)
  unfolding distinguish_number distinguish_bytes
  first-refused w k f = (ap (λ i. 128 + i) f ∙ sym (cond-true _ _ _ w), sym (cond-true _ _ _ w))

  module _ (w : refuses (read_image p a).decision ≡ false) where
    pub second-refused : refuses (read_image p b).decision ≡ true → (k : ℕ) → k ≡ number (read_image p b).decision
        → (192 + k ≡ distinguish_number p a b buffer) × (buffer ≡ distinguish_bytes p a b buffer)
    unfolding distinguish_number distinguish_bytes
    second-refused v k g = (
      ap (λ i. 192 + i) g ∙ sym (cond-true _ _ _ v) ∙ sym (cond-false _ _ _ w),
      sym (cond-true _ _ _ v) ∙ sym (cond-false _ _ _ w),
    )

    pub told-apart : refuses (read_image p b).decision ≡ false → (m n : Monitor) → m ≡ (read_image p a).monitor → n ≡ (read_image p b).monitor
        → (k : ℕ) → k ≡ told_number m n buffer → (last : List ℕ) → last ≡ told_bytes m n buffer
        → (k ≡ distinguish_number p a b buffer) × (last ≡ distinguish_bytes p a b buffer)
    unfolding distinguish_number distinguish_bytes
    told-apart v m n x y k g last h = (
      g ∙ ap₂ (λ (i j : Monitor). told_number i j buffer) x y ∙ sym (cond-false _ _ _ v) ∙ sym (cond-false _ _ _ w),
      h ∙ ap₂ (λ (i j : Monitor). told_bytes i j buffer) x y ∙ sym (cond-false _ _ _ v) ∙ sym (cond-false _ _ _ w),
    )
