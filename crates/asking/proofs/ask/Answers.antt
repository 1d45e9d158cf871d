-- `asking::ask` meets its contract.
-- Assumes nothing.
use Prim.Native.Nat.{ℕ}
use mathlib.Core.Path.{◌≡◌, refl, sym, ap, ◌∙◌}
use mathlib.Core.List.{List}
use Rattle.model.specs.declared.Profile.{Profile}
use Rattle.model.specs.Requests.{Decoded, decode}
use Rattle.model.proofs.Requests.{decode-range}
use Rattle.asking.proofs.Lists.{ask-malformed, ask-says}
use Rattle.asking.proofs.ask.Goals as goal

said : (b : List ℕ) (p q : Profile) (d : Decoded) → q ≡ p → d ≡ decode q b → decode p b ≡ d
said b p q d e f = sym (f ∙ ap (λ (x : Profile). decode x b) e)

pub carry_out-requires : goal.carry_out-requires
carry_out-requires c = record {
  in_range = decode-range _ c.args.bytes.now _ (said _ _ _ _ c.profile_of-profile.ensures c.decode.ensures ∙ c.in-Some.is);
}

pub returns-in-None : goal.returns-in-None
returns-in-None c = ask-malformed c.args.bytes.now c.args.unit.now _
    (said _ _ _ _ c.profile_of-profile.ensures c.decode.ensures ∙ c.in-None.is) refl

pub returns-in-Some : goal.returns-in-Some
returns-in-Some c = ask-says c.args.bytes.now c.args.unit.now _ _ _
    (said _ _ _ _ c.profile_of-profile.ensures c.decode.ensures ∙ c.in-Some.is) c.carry_out.ensures
