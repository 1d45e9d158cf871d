-- For every content of a unit: the rows after a byte string, or after a list, say the state after it.
-- Assumes nothing.
use Prim.Native.Nat.{ℕ}
use mathlib.Core.Path.{◌≡◌, refl, sym, ap, ◌∙◌, subst}
use mathlib.Core.List.{List, [], ◌∷◌, ◌++◌}
use lib.ListN.{length}
use Rattle.model.specs.declared.Request.{Request}
use Rattle.model.specs.Requests.{Decoded, decode}
use Rattle.std.specs.Prelude.{Some, None}
use Rattle.model.specs.declared.Decision.TheVariants.{MalformedRequest}
use Rattle.model.specs.Decisions.{number}
use Rattle.model.specs.Runs.{carry_out, respond, reply, after}
use Rattle.model.proofs.Requests.{decode-range}
use Rattle.unit.specs.Rows.{Rows, row_count, state_in}
use Rattle.kinds.specs.Carried.{Does}
use Rattle.kinds.proofs.Effects.{carried-length, carried-state}
use Rattle.asking.specs.Asked.{asked_said, asked, asked_all}

-- ---- one byte string

said-length : (d : Decoded) (u : Rows) → length (asked_said d u) ≡ length u
said-length None u = refl
said-length (Some q) u = carried-length q u

pub asked-length : (b : List ℕ) (u : Rows) → length (asked b u) ≡ length u
unfolding asked
asked-length b u = said-length (decode (state_in u).profile b) u

pub asked-state : (b : List ℕ) (u : Rows) → length u ≡ row_count → state_in (asked b u) ≡ (respond b (state_in u)).monitor
unfolding asked respond
asked-state b u n = go (decode (state_in u).profile b) refl
  where
    go : (d : Decoded) → decode (state_in u).profile b ≡ d → state_in (asked_said d u) ≡ (carry_out d (state_in u)).monitor
    go None e = refl
    go (Some q) e = carried-state q u n (decode-range (state_in u).profile b q e)

-- ---- a list of them

pub all_append : (bs cs : List (List ℕ)) (u : Rows) → asked_all (bs ++ cs) u ≡ asked_all cs (asked_all bs u)
unfolding asked_all
all_append [] cs u = refl
all_append (b ∷ bs) cs u = all_append bs cs (asked b u)

pub all-state : (bs : List (List ℕ)) (u : Rows) → length u ≡ row_count → state_in (asked_all bs u) ≡ after bs (state_in u)
unfolding asked_all after
all-state [] u n = refl
all-state (b ∷ bs) u n = all-state bs (asked b u) (asked-length b u ∙ n) ∙ ap (after bs) (asked-state b u n)

-- ---- what the code returns and leaves

pub ask-malformed : (b : List ℕ) (u : Rows) (r : ℕ) → decode (state_in u).profile b ≡ None → r ≡ number MalformedRequest → (r ≡ reply b (state_in u)) × (u ≡ asked b u)
unfolding respond asked
ask-malformed b u r e f = (f ∙ ap (λ d. number (carry_out d (state_in u)).decision) (sym e), ap (λ d. asked_said d u) (sym e))

pub ask-says : (b : List ℕ) (u w : Rows) (q : Request) (r : ℕ) → decode (state_in u).profile b ≡ Some q → Does q u w r → (r ≡ reply b (state_in u)) × (w ≡ asked b u)
unfolding respond asked
ask-says b u w q r e D = (D.answers ∙ ap (λ d. number (carry_out d (state_in u)).decision) (sym e), D.leaves ∙ ap (λ d. asked_said d u) (sym e))

pub does-same : {q k : Request} {u w : Rows} {r : ℕ} → q ≡ k → Does k u w r → Does q u w r
does-same {q} {k} {u} {w} {r} e D = subst (λ (x : Request). Does x u w r) (sym e) D
