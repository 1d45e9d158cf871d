-- Lists of requests that tell two states apart: what each search finds, or what is then known to be the same.
-- Assumes nothing.
use Prim.Native.Nat.{ℕ, zero, suc, ◌<◌, ◌≤◌}
use native.Mathlib.Omega.{arith}
use native.Mathlib.Nat.{eq-or-lt_of_le, le_of_suc-le-suc}
use mathlib.Core.Path.{◌≡◌, refl, sym, ap, ◌∙◌, subst}
use mathlib.Core.Logic.{◌≢◌, ⊎_elim}
use mathlib.Core.Bool.{Bool, true, false}
use mathlib.Core.List.{List, [], ◌∷◌, map}
use lib.ListN.{length, get_or}
use Rattle.model.specs.declared.Profile.{Profile}
use Rattle.model.specs.declared.Monitor.{Monitor}
use Rattle.model.specs.declared.Mode.{Mode}
use Rattle.model.specs.declared.Mode.TheVariants.{Read, Write, Append, Execute}
use Rattle.model.specs.declared.Request.{Request}
use Rattle.model.specs.Requests.{Decoded, encode, decode}
use Rattle.model.specs.declared.Response.{Response}
use Rattle.model.specs.Decisions.{number}
use Rattle.model.specs.Rules.{step}
use Rattle.model.specs.Runs.{carry_out, respond, replies}
use Rattle.model.proofs.Tests.{clash}
use Rattle.model.proofs.Requests.{encode-decode}
use Rattle.telling.specs.Distinguish.{or_else, search, search_modes, when, differ}
use Rattle.equal_images.specs.Inputs.{Formed, AllFormed}

-- the response of a monitor of the profile to the bytes of a request that is well formed for it
pub respond-encode : (p : Profile) (q : Request) (m : Monitor) → m.profile ≡ p → Formed p q → respond (encode q) m ≡ step q m
unfolding respond
respond-encode p q m e f = ap (λ (d : Decoded). carry_out d m) (ap (λ (k : Profile). decode k (encode q)) e ∙ encode-decode p q f.0 f.1)

-- the replies to a list of requests differ at some place
unfoldable pub Differs : List Request → Monitor → Monitor → Type 0
Differs qs m n = replies (map encode qs) m ≡ replies (map encode qs) n → ⊥

pub differs-sym : (qs : List Request) (m n : Monitor) → Differs qs m n → Differs qs n m
unfolding Differs
differs-sym qs m n d e = d (sym e)

-- two monitors of one profile
module _ (p : Profile) (m n : Monitor) (here : m.profile ≡ p) (there : n.profile ≡ p) (q : Request) (qs : List Request) (f : Formed p q) where
  -- at the first request
  pub differs-first : number (step q m).decision ≢ number (step q n).decision → Differs (q ∷ qs) m n
  unfolding Differs replies
  differs-first h e =
      h
      (ap (λ (k : Response). number k.decision) (sym (respond-encode p q m here f)) ∙ ap (λ (l : List ℕ). get_or l 0 0) e
      ∙ ap (λ (k : Response). number k.decision) (respond-encode p q n there f))

  -- after it
  pub differs-later : Differs qs (step q m).monitor (step q n).monitor → Differs (q ∷ qs) m n
  unfolding Differs replies
  differs-later h e =
      h
      (ap (λ (k : Response). replies (map encode qs) k.monitor) (sym (respond-encode p q m here f)) ∙ ap tail e
      ∙ ap (λ (k : Response). replies (map encode qs) k.monitor) (respond-encode p q n there f))
    where
      tail : List ℕ → List ℕ
      tail [] = []
      tail (x ∷ xs) = xs

-- a list tells the two states apart, or it is empty and something is known
module _ (p : Profile) (m n : Monitor) where
  pub data Probe (qs : List Request) (known : Type 0) : Type 0 where
    alike : qs ≡ [] → known → Probe qs known
    apart : AllFormed p qs → length qs ≤ 4 → Differs qs m n → Probe qs known

  pub probe-map : {E F : Type 0} (qs : List Request) → (E → F) → Probe qs E → Probe qs F
  probe-map qs f (alike o e) = alike o (f e)
  probe-map qs f (apart r l d) = apart r l d

  -- the second list is looked at where the first is empty
  pub probe-or : {E F : Type 0} (qs rs : List Request) → Probe qs E → (E → Probe rs F) → Probe (or_else qs rs) (E × F)
  unfolding or_else Differs replies
  probe-or {E} {F} qs rs (alike o e) g = subst (λ (l : List Request). Probe (or_else l rs) (E × F)) (sym o) (probe-map rs (λ f. (e, f)) (g e))
  probe-or [] rs (apart r l d) g = absurd (d refl)
  probe-or (q ∷ qs) rs (apart r l d) g = apart r l d

  pub probe-search : (E : ℕ → Type 0) (k : ℕ) (f : ℕ → List Request) → ((i : ℕ) → i < k → Probe (f i) (E i)) → Probe (search k f) ((i : ℕ) → i < k → E i)
  unfolding search
  probe-search E zero f h = alike refl (λ i b. absurd (omega arith))
  probe-search E (suc k) f h =
      probe-map (search (suc k) f)
      (λ (p : ((i : ℕ) → i < k → E i) × E k). λ i b. ⊎_elim (λ e. subst E (sym e) p.1) (λ w. p.0 i w) (eq-or-lt_of_le (le_of_suc-le-suc b)))
      (probe-or (search k f) (f k) (probe-search E k f (λ i b. h i (omega arith))) (λ e. h k (omega arith)))

  pub probe-modes : (E : Mode → Type 0) (f : Mode → List Request) → ((x : Mode) → Probe (f x) (E x)) → Probe (search_modes f) ((x : Mode) → E x)
  probe-modes E f h =
      probe-map (search_modes f) (λ (p : E Read × (E Write × (E Append × E Execute))). each p)
      (probe-or (f Read) _ (h Read) (λ e. probe-or (f Write) _ (h Write) (λ e. probe-or (f Append) (f Execute) (h Append) (λ e. h Execute))))
    where
      each : E Read × (E Write × (E Append × E Execute)) → (x : Mode) → E x
      each p Read = p.0
      each p Write = p.1.0
      each p Append = p.1.1.0
      each p Execute = p.1.1.1

-- one request, where a test passes
module _ (p : Profile) (m n : Monitor) (here : m.profile ≡ p) (there : n.profile ≡ p) where
  pub probe-when : {E : Type 0} (b : Bool) (q : Request) → (b ≡ false → E) → (b ≡ true → Formed p q × (number (step q m).decision ≢ number (step q n).decision))
      → Probe p m n (when b q) E
  unfolding when
  probe-when true q f g = let t = g refl in apart (t.0, tt) (omega arith) (differs-first p m n here there q [] t.0 t.1)
  probe-when false q f g = alike refl (f refl)

  -- a test of two that differs where one passes and the other does not
  pub probe-differ : (a b : Bool) (q : Request)
      → (a ≡ true → b ≡ false → Formed p q × (number (step q m).decision ≢ number (step q n).decision))
      → (a ≡ false → b ≡ true → Formed p q × (number (step q m).decision ≢ number (step q n).decision))
      → Probe p m n (when (differ a b) q) (a ≡ b)
  probe-differ true true q f g = probe-when _ q (λ e. refl) (λ e. clash (sym e))
  probe-differ true false q f g = probe-when _ q (λ e. clash e) (λ e. f refl refl)
  probe-differ false true q f g = probe-when _ q (λ e. clash e) (λ e. g refl refl)
  probe-differ false false q f g = probe-when _ q (λ e. refl) (λ e. clash (sym e))
