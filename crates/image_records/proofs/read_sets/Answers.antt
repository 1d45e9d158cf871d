-- `image_records::read_sets` meets its contract.
-- Assumes nothing.
-- After s turns the sets of the subjects below s are read, and the bits so far are blank or not.
-- Assumes nothing.
use mathlib.Core.Path.{◌≡◌, refl, sym, ap, ◌∙◌}
use mathlib.Core.List.{map}
use Prim.Native.Nat.{ℕ, ◌+◌, ◌*◌, ◌/◌, ◌%◌, ◌<◌}
use native.Mathlib.Omega.{arith}
use lib.Bits.{bit_and}
use lib.ListN.{length, take, drop, length-set}
use Rattle.bits.specs.Bits.{from_bits, all_zero}
use Rattle.bits.specs.Fields.{field-within}
use Rattle.bits.specs.Records.{cut-take}
use Rattle.model.specs.State.{subject_count}
use Rattle.model.specs.Layout.{pair_width}
use Rattle.model.specs.Reading.{rights_from, held_from}
use Rattle.image_records.proofs.Places.{length_at, byte_at}
use Rattle.bits.proofs.Machine.{low-four}
use Rattle.image_records.proofs.Contents.{zero_more, halves}
use Rattle.image_records.proofs.Gathering.{none-gathered, gather-more, gathered}
use Rattle.image_records.proofs.read_sets.Goals as goal
use Rattle.image_records.proofs.read_sets.Invariants.{from}

pub loop-s-init : goal.loop-s-init
unfolding all_zero
loop-s-init c = let x = from c.args.bytes.now c.args.at in
    (omega arith, refl, refl, none-gathered rights_from pair_width x, none-gathered held_from pair_width x, refl)

pub loop-s-preserved : goal.loop-s-preserved
loop-s-preserved c = let loop = c.loop-s in
    let a = c.args in
    let s = a.bytes.now in
    let x = from s a.at in
    let i = loop.s in
    let v = c.read_byte-sets.result in
    let b = take 8 (drop (8 * i) x) in
    let here = byte_at s a.at i in
    let e : v ≡ from_bits b = c.read_byte-sets.ensures.0 ∙ field-within s (a.at + 8 * i) 8 (omega arith) ∙ ap from_bits here in
    let two = halves b (ap length (sym here) ∙ length_at s (a.at + 8 * i) 8 (omega arith)) in
    let hr : i < length loop.rights = omega (arith, loop.invariant.1) in
    let hh : i < length loop.held = omega (arith, loop.invariant.2) in (
      omega arith,
      length-set loop.rights i (v / 16) ∙ loop.invariant.1,
      length-set loop.held i (bit_and v 15) ∙ loop.invariant.2,
      gather-more rights_from pair_width x loop.rights i (v / 16) hr loop.invariant.3 (ap (λ (n : ℕ). n / 16) e ∙ two.0),
      gather-more held_from pair_width x loop.held i (bit_and v 15) hh loop.invariant.4 (low-four v ∙ ap (λ (n : ℕ). n % 16) e ∙ two.1),
      zero_more x i v loop.blank loop.invariant.5 e,
    )

pub returns : goal.returns
returns c = let loop = c.loop-s in
    let a = c.args in
    let x = from a.bytes.now a.at in
    let end : loop.s ≡ subject_count = omega arith in
    let rights-eq = gathered rights_from subject_count pair_width x loop.rights loop.s loop.invariant.1 end loop.invariant.3 ∙ ap (map rights_from) (sym (cut-take subject_count pair_width x)) in
    let held-eq = gathered held_from subject_count pair_width x loop.held loop.s loop.invariant.2 end loop.invariant.4 ∙ ap (map held_from) (sym (cut-take subject_count pair_width x)) in
    let blank-eq = loop.invariant.5 ∙ ap (λ (n : ℕ). all_zero (take (8 * n) x)) end in
    λ i. record { rights = rights-eq i; held = held-eq i; blank = blank-eq i }
