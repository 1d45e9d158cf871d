-- `test_load::xorshift::Generator::request` meets its contract: each draw is the next one of the one before it.
-- Assumes nothing.
use Prim.Native.Nat.{ℕ}
use mathlib.Core.Path.{◌≡◌, ap, ◌∙◌}
use Rattle.test_load.specs.Generator.{xorshift}
use Rattle.test_load.proofs.Draws.{seventh, made_of}
use Rattle.test_load.proofs.xorshift.Generator.request.Goals as goal

-- the state is the last draw
next_of : {a state b : ℕ} → state ≡ a → b ≡ xorshift state → b ≡ xorshift a
next_of same e = e ∙ ap xorshift same

pub returns : goal.returns
returns c = let x = c.args.self.now.state in
    let a = c.next.ensures.0 in
    let b = next_of c.next.ensures.1 c.next-actor.ensures.0 in
    let d = next_of c.next-actor.ensures.1 c.next-other.ensures.0 in
    let e = next_of c.next-other.ensures.1 c.next-object.ensures.0 in
    let f = next_of c.next-object.ensures.1 c.next-mode.ensures.0 in
    let g = next_of c.next-mode.ensures.1 c.next-class.ensures.0 in
    let h = next_of c.next-class.ensures.1 c.next-needs.ensures.0 in
    let level = c.level_drawn-level.ensures in (
      made_of x _ _ _ _ _ _ _ a b d e f g h _ _ _ _ _
          c.kind_drawn-kind.ensures c.other_drawn.ensures c.mode_drawn.ensures level.0 level.1,
      c.next-needs.ensures.1 ∙ seventh x _ _ _ _ _ _ _ a b d e f g h,
    )
