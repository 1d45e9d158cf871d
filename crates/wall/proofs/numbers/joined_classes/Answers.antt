-- `wall::numbers::joined_classes` meets its contract.
-- Assumes nothing.
use Prim.Native.Nat.{ℕ, ◌+◌, ◌*◌, ◌/◌, ◌%◌, ◌<◌}
use native.Mathlib.Omega.{arith}
use mathlib.Core.Path.{◌≡◌, sym, ap, ap₂, ◌∙◌, subst}
use Rattle.model.specs.Companies.{company}
use Rattle.wall.specs.Joined.{number_or, joined}
use Rattle.wall.proofs.Joined.{number-or-fits, last-company}
use Rattle.wall.proofs.numbers.joined_classes.Goals as goal
use Rattle.wall.proofs.numbers.joined_classes.Goals.{After-number_or-last}

one-fits : (r a b : ℕ) → r ≡ number_or (a % 16) (b % 16) → r < 16
one-fits r a b e = subst (λ (n : ℕ). n < 16) (sym e) (number-or-fits (a % 16) (b % 16) (omega arith) (omega arith))

fits : (c : After-number_or-last)
    → (c.number_or-first.result < 16) × (c.number_or-second.result < 16) × (c.number_or-third.result < 16) × (c.number_or-last.result < 16)
fits c =
    let p = c.args.p in
    let q = c.args.q in (
      one-fits _ (p / 4096) (q / 4096) c.number_or-first.ensures,
      one-fits _ (p / 256) (q / 256) c.number_or-second.ensures,
      one-fits _ (p / 16) (q / 16) c.number_or-third.ensures,
      one-fits _ p q c.number_or-last.ensures,
    )

pub returns : goal.returns
unfolding joined company
returns c = let a = c.args in
    let last = c.number_or-last.ensures ∙ ap₂ number_or (last-company a.p) (last-company a.q) in
    ap₂ ◌+◌
    (ap₂ ◌+◌
    (ap₂ ◌+◌ (ap (λ (n : ℕ). n * 4096) c.number_or-first.ensures) (ap (λ (n : ℕ). n * 256) c.number_or-second.ensures))
    (ap (λ (n : ℕ). n * 16) c.number_or-third.ensures))
    last
