-- `writing::write_object` meets its contract.
-- Five bits, the label, the company numbers, the sets and the parent, one behind the other, are the object's record; where there is no object, its bits are all 0.
-- Assumes nothing.
use mathlib.Core.Path.{refl, sym, ap, ◌∙◌}
use mathlib.Core.Bool.{Bool}
use mathlib.Core.List.{List, ◌∷◌, ◌++◌, append_assoc}
use Prim.Native.Nat.{ℕ, ◌+◌, ◌*◌, ◌%◌}
use native.Mathlib.Omega.{arith}
use Rattle.bits.specs.Bits.{to_bits}
use Rattle.bits.specs.Stream.{next, ends}
use Rattle.model.specs.Layout.{label_bits, sets_bits, object_bits}
use Rattle.model.proofs.Records.{none-bits}
use Rattle.record_fields.proofs.Words.{flag-bits}
use Rattle.record_fields.proofs.Streams.{left}
use Rattle.writing.proofs.write_object.Goals as goal

pub returns-then-is_none-clause-wrote : goal.returns-then-is_none-clause-wrote
returns-then-is_none-clause-wrote c = ends _ _ (none-bits ∙ ap object_bits (sym (c.is_none.ensures c.if-is_none.true))) refl c.zeros.ensures.wrote

pub label-requires : goal.label-requires
label-requires c =
    let r = left 5 172 c.append.ensures.wrote c.append.ensures.moves c.requires in
    (omega (arith, r.0), r.1)

pub companies-requires : goal.companies-requires
companies-requires c =
    let r = left 5 172 c.append.ensures.wrote c.append.ensures.moves c.requires in
    let q = left 21 151 c.label.ensures.wrote c.label.ensures.moves r in
    (omega (arith, q.0), q.1)

pub sets-requires : goal.sets-requires
sets-requires c =
    let r = left 5 172 c.append.ensures.wrote c.append.ensures.moves c.requires in
    let q = left 21 151 c.label.ensures.wrote c.label.ensures.moves r in
    let p = left 16 135 c.companies.ensures.wrote c.companies.ensures.moves q in
    ((omega (arith, p.0), p.1), c.companies.ensures.wrote.small)

pub parent-requires : goal.parent-requires
parent-requires c =
    let r = left 5 172 c.append.ensures.wrote c.append.ensures.moves c.requires in
    let q = left 21 151 c.label.ensures.wrote c.label.ensures.moves r in
    let p = left 16 135 c.companies.ensures.wrote c.companies.ensures.moves q in
    left 128 7 c.sets.ensures.wrote c.sets.ensures.moves p

pub returns-clause-wrote : goal.returns-clause-wrote
unfolding object_bits
returns-clause-wrote c = let ob = c.args.object in
    let numbers = to_bits 16 ob.companies in
    let sets = sets_bits ob.rights ob.held in
    let parent = to_bits 7 ob.parent in
    let record-bits =
    ap (λ (l : List Bool). (((l ++ label_bits ob.label) ++ numbers) ++ sets) ++ parent) (ap (to_bits 5) c.side_by_side.ensures ∙ ap (λ (n : ℕ). to_bits 5 (n % 16 * 16 + ob.owner % 16)) c.from.ensures ∙ flag-bits ob.live ob.owner)
    ∙ append_assoc (((ob.live ∷ to_bits 4 ob.owner) ++ label_bits ob.label) ++ numbers) sets parent
    ∙ append_assoc ((ob.live ∷ to_bits 4 ob.owner) ++ label_bits ob.label) numbers (sets ++ parent)
    ∙ append_assoc (ob.live ∷ to_bits 4 ob.owner) (label_bits ob.label) (numbers ++ (sets ++ parent)) in
    ends _ _ record-bits refl
    (next _ _ refl (next _ _ refl (next _ _ refl (next _ _ refl c.append.ensures.wrote c.label.ensures.wrote) c.companies.ensures.wrote) c.sets.ensures.wrote) c.parent.ensures.wrote)
