-- `capi::sites::circmon_distinguish_in` meets its contract.
-- Assumes nothing.
use mathlib.Core.Path.{sym, ap, ◌∙◌}
use Rattle.model.specs.declared.Profile.{Profile}
use Rattle.model.specs.Profiles.{profile_fits}
use Rattle.model.proofs.Tests.{cond-true, cond-false}
use Rattle.images_apart.specs.Apart.{distinguish_number, distinguish_bytes}
use Rattle.capi.specs.SiteAnswers.{apart_number, apart_bytes}
use Rattle.capi.proofs.sites.circmon_distinguish_in.Goals as goal

pub returns-then-not-fits : goal.returns-then-not-fits
unfolding apart_number apart_bytes
returns-then-not-fits c = let off = ap profile_fits (sym c.site-profile.ensures) ∙ sym c.fits.ensures ∙ c.if-not-fits.true in
    (c.from.ensures ∙ sym (cond-false _ _ _ off), sym (cond-false _ _ _ off))

pub returns : goal.returns
unfolding apart_number apart_bytes
returns c = let args = c.args in
    let p = c.site-profile.ensures in
    let on = ap profile_fits (sym p) ∙ sym c.fits.ensures ∙ c.if-not-fits.false in
    let r = c.tell.ensures in (
      r.0 ∙ ap (λ (k : Profile). distinguish_number k args.a.now args.b.now args.requests.now) p ∙ sym (cond-true _ _ _ on),
      r.1 ∙ ap (λ (k : Profile). distinguish_bytes k args.a.now args.b.now args.requests.now) p ∙ sym (cond-true _ _ _ on),
    )
