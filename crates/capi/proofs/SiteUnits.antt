-- Beginnings and two images under a profile (change request §8): the numbers of `circmon_distinguish_in`, and two units of one profile told apart.
-- Assumes nothing.
use Prim.Native.Nat.{ℕ, ◌≤◌}
use mathlib.Core.Path.{◌≡◌, refl, sym, ap, ap₂, ◌∙◌, subst}
use mathlib.Core.Logic.{◌≢◌}
use mathlib.Core.Bool.{true, false}
use mathlib.Core.List.{List, []}
use lib.ListN.{length}
use Rattle.bits.specs.Bits.{Bytes, cut}
use Rattle.model.specs.declared.Profile.{Profile}
use Rattle.model.specs.State.{widest}
use Rattle.model.specs.Profiles.{ProfileFits, site, profile_fits, level_inside}
use Rattle.model.specs.Beginnings.{image, Accepted}
use Rattle.model.proofs.Tests.{split, cond-true, cond-false}
use Rattle.model.proofs.Profiles.{profile-decides}
use Rattle.images.proofs.Reached.{left-inside}
use Rattle.refusals.specs.Causes.{ProfileOutside}
use Rattle.refusals.proofs.ProfileCauses.{profile-not-outside}
use Rattle.images_apart.specs.Apart.{distinguish_number, distinguish_bytes}
use Rattle.capi.specs.SiteAnswers.{apart_number, apart_bytes}
use Rattle.capi.specs.UnitRuns.{begun_unit, unit_replies}
use Rattle.capi.proofs.UnitRuns.{unit-replies}
use Rattle.capi.proofs.Calls.{distinguish-replies}

-- the four numbers in their order: the last that is in its range and the first that is not; a class, and a need; all of them at their highest are
-- the widest profile
pub four-numbers : (profile_fits (site 16 64 15 0) ≡ true) × (profile_fits (site 17 64 15 0) ≡ false) × (profile_fits (site 16 65 15 0) ≡ false)
    × (profile_fits (site 16 64 16 0) ≡ false) × (profile_fits (site 0 1 0 0) ≡ false) × (profile_fits (site 1 0 0 0) ≡ false)
    × (level_inside (site 1 1 4 2) (record { class = 4; needs = 2 }) ≡ true) × (level_inside (site 1 1 4 2) (record { class = 2; needs = 4 }) ≡ false)
    × (site 16 64 15 65535 ≡ widest)
unfolding profile_fits
four-numbers = (refl, refl, refl, refl, refl, refl, refl, refl, refl)

-- "16, a profile outside these ranges, before anything else is read": whatever the images are, and every byte left
pub apart-16 : (p : Profile) (a b buffer : List ℕ) → ProfileOutside p → (apart_number p a b buffer ≡ 16) × (apart_bytes p a b buffer ≡ buffer)
unfolding apart_number apart_bytes
apart-16 p a b buffer h =
    let off : profile_fits p ≡ false = split (profile_fits p) (λ e. absurd (profile-not-outside p e h)) (λ e. e) in
    (cond-false (profile_fits p) _ _ off, cond-false (profile_fits p) _ _ off)

-- else what is told under it
pub apart-told : (p : Profile) (a b buffer : List ℕ) → ProfileFits p
    → (apart_number p a b buffer ≡ distinguish_number p a b buffer) × (apart_bytes p a b buffer ≡ distinguish_bytes p a b buffer)
unfolding apart_number apart_bytes
apart-told p a b buffer h =
    let on = (profile-decides p).1 h in
    (cond-true (profile_fits p) _ _ on, cond-true (profile_fits p) _ _ on)

-- of two units that were opened with 0 under one profile: no request where their images are equal; where they differ 1 to 4, to which the two
-- units reply differently
pub sites-told : (p : Profile) (a b buffer : List ℕ) → Bytes a → Bytes b → Accepted (image p a) → Accepted (image p b) → 24 ≤ length buffer
    → let n = apart_number p a b buffer in
    let qs = cut n 6 (apart_bytes p a b buffer) in
    (a ≡ b → n ≡ 0) × (a ≢ b → (1 ≤ n) × (n ≤ 4) × (unit_replies qs (begun_unit (image p a)) ≢ unit_replies qs (begun_unit (image p b))))
sites-told p a b buffer ha hb A B room =
    let told = apart-told p a b buffer (left-inside (image p a) A []).0 in
    let d = distinguish-replies p a b buffer ha hb A B room in
    let qs = cut (distinguish_number p a b buffer) 6 (distinguish_bytes p a b buffer) in
    let same : cut (apart_number p a b buffer) 6 (apart_bytes p a b buffer) ≡ qs = ap₂ (λ (n : ℕ) (l : List ℕ). cut n 6 l) told.0 told.1 in (
      λ e. told.0 ∙ d.0 e,
      λ h.
          let t = d.1 h in (
            subst (λ (k : ℕ). 1 ≤ k) (sym told.0) t.0,
            subst (λ (k : ℕ). k ≤ 4) (sym told.0) t.1,
            λ e. t.2 (sym (unit-replies (image p a) qs)
                ∙ sym (ap (λ (l : List (List ℕ)). unit_replies l (begun_unit (image p a))) same) ∙ e
                ∙ ap (λ (l : List (List ℕ)). unit_replies l (begun_unit (image p b))) same ∙ unit-replies (image p b) qs),
          ),
    )
