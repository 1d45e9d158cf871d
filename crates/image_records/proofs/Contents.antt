-- What the bits of a flag, a label, two sets and an object say, from the numbers in their fields.
-- Assumes nothing.
use mathlib.Core.Path.{◌≡◌, refl, sym, ap, ap₂, ◌∙◌}
use mathlib.Core.Bool.{Bool, true, false, cond, ◌&&◌, ◌||◌}
use mathlib.Core.List.{List, [], ◌∷◌, ◌++◌}
use Prim.Native.Nat.{ℕ, ◌+◌, ◌*◌, ◌/◌, ◌%◌, ◌^◌, ◌<◌}
use native.Mathlib.Omega.{arith}
use borrow.Author.Tests.{le-leb, lt-leb}
use lib.Bits.{bit_and}
use lib.Dec.{leb, eqb}
use lib.ListN.{length, take, drop, length-drop, take-append-drop}
use lib.Seq.{take_all, take-take, take-add, drop-drop}
use Rattle.bits.specs.Bits.{bit, from_bits, first, all_zero}
use Rattle.bits.specs.Laws.{from_bits-take, from_bits-split, all_zero-from_bits}
use Rattle.bits.proofs.Machine.{low-four}
use Rattle.model.specs.declared.Level.{Level}
use Rattle.std.specs.Prelude.{Option, Some, None}
use Rattle.std.specs.Bool.{then_some}
use Rattle.std.specs.Option.{option_map}
use Rattle.model.specs.declared.Object.{Object}
use Rattle.model.specs.Levels.{present}
use Rattle.model.specs.State.{needs_width, no_object, with_owner, with_label, with_companies, with_parent, with_rows}
use Rattle.model.specs.Companies.{companies_width}
use Rattle.model.specs.Layout.{label_width, owner_width, label_offset, set_width, pair_width, companies_offset, sets_offset, sets_width, parent_width, parent_offset, object_width}
use Rattle.model.specs.Reading.{field_of, label_from, label_form, rights_from, held_from, object_from, object_form}
use Rattle.image_records.specs.declared.FlagRead.{FlagRead}
use Rattle.image_records.specs.declared.LabelRead.{LabelRead}
use Rattle.image_records.specs.declared.SetsRead.{SetsRead}
use Rattle.image_records.specs.Records.{flag_width, flag_of, label_of, sets_of, object_of}

-- ---- no bit set

zero-append : (a b : List Bool) → all_zero (a ++ b) ≡ (all_zero a && all_zero b)
unfolding all_zero
zero-append [] b = refl
zero-append (true ∷ a) b = refl
zero-append (false ∷ a) b = zero-append a b

zero-parts : (w : ℕ) (b : List Bool) → (all_zero (take w b) && all_zero (drop w b)) ≡ all_zero b
zero-parts w b = sym (zero-append (take w b) (drop w b)) ∙ ap all_zero (take-append-drop w b)

-- one byte more
pub zero_more : (b : List Bool) (i v : ℕ) (z : Bool) → z ≡ all_zero (take (8 * i) b) → v ≡ from_bits (take 8 (drop (8 * i) b)) → (z && eqb v 0) ≡ all_zero (take (8 * (i + 1)) b)
zero_more b i v z e p =
    let w : 8 * (i + 1) ≡ 8 * i + 8 = omega arith in
    rw (w, take-add (8 * i) 8 b, zero-append (take (8 * i) b) (take 8 (drop (8 * i) b)), all_zero-from_bits (take 8 (drop (8 * i) b)), e, p)

-- ---- a flag and four bits

flag_is : (x : Bool) (n : ℕ) → n < 16 → leb 16 (bit x * 16 + n) ≡ x
flag_is true n h = le-leb 16 (1 * 16 + n) (omega arith)
flag_is false n h = lt-leb 16 (0 * 16 + n) (omega arith)

pub flag-from : (b : List Bool) (v : ℕ) → length b ≡ flag_width → v ≡ from_bits b
    → record { number = then_some (leb 16 v) (bit_and v 15); blank = eqb v 0 } ≡ flag_of b
unfolding from_bits
flag-from [] v l e = absurd (omega arith)
flag-from (x ∷ b) v l e =
    let n : length b ≡ 4 = omega arith in
    let whole : take 4 b ≡ b = take_all 4 b (omega arith) in
    let small : from_bits b < 16 = rw whole at (from_bits-take 4 b) in
    let value : v ≡ bit x * 16 + from_bits b = e ∙ ap (λ (k : ℕ). bit x * 2 ^ k + from_bits b) n in
    let flag-eq : leb 16 v ≡ x = ap (leb 16) value ∙ flag_is x (from_bits b) small in
    let number-eq : bit_and v 15 ≡ from_bits (take 4 b) = low-four v ∙ ap (λ (k : ℕ). k % 16) value ∙ omega arith ∙ ap from_bits (sym whole) in
    let blank-eq : eqb v 0 ≡ all_zero (x ∷ b) = ap (λ (k : ℕ). eqb k 0) e ∙ sym (all_zero-from_bits (x ∷ b)) in
    λ i. record { number = then_some (flag-eq i) (number-eq i); blank = blank-eq i }

-- the flag of a longer record is in its first five bits
module _ (b : List Bool) (r : FlagRead) (e : r ≡ flag_of (take flag_width b)) where
  flag-read : r.number ≡ then_some (first b) (field_of b 1 owner_width)
  flag-read = ap (λ (f : FlagRead). f.number) e ∙ same b
    where
      same : (b : List Bool) → then_some (first (take flag_width b)) (field_of (take flag_width b) 1 owner_width) ≡ then_some (first b) (field_of b 1 owner_width)
      same [] = refl
      same (x ∷ b) = ap (λ (k : ℕ). then_some x k) (ap from_bits (take-take owner_width owner_width b (omega arith)))

  flag-set : (k : ℕ) → r.number ≡ Some k → (first b ≡ true) × (k ≡ field_of b 1 owner_width)
  flag-set k h = at-flag (first b) refl
    where
      at-flag : (x : Bool) → first b ≡ x → (first b ≡ true) × (k ≡ field_of b 1 owner_width)
      at-flag true p = (p, let z : Some k ≡ Some (field_of b 1 owner_width) = sym h ∙ flag-read ∙ rw p in cc)
      at-flag false p = let z : Some k ≡ None = sym h ∙ flag-read ∙ rw p in cc

  flag-off : r.number ≡ None → first b ≡ false
  flag-off h = at-flag (first b) refl
    where
      at-flag : (x : Bool) → first b ≡ x → first b ≡ false
      at-flag false p = p
      at-flag true p = let z : None ≡ Some (field_of b 1 owner_width) = sym h ∙ flag-read ∙ rw p in cc

-- ---- a label

module _ (b : List Bool) (l : length b ≡ label_width) (r : FlagRead) (e : r ≡ flag_of (take flag_width b)) (n : ℕ) (p : n ≡ field_of b flag_width needs_width) where
  label-blank : (r.blank && eqb n 0) ≡ all_zero b
  label-blank =
      let rest : take needs_width (drop flag_width b) ≡ drop flag_width b = take_all needs_width (drop flag_width b) (rw (length-drop flag_width b) (omega arith)) in
      let head : r.blank ≡ all_zero (take flag_width b) = ap (λ (f : FlagRead). f.blank) e in
      ap₂ (λ (x y : Bool). x && y) head (ap (λ (k : ℕ). eqb k 0) p ∙ sym (all_zero-from_bits (take needs_width (drop flag_width b))) ∙ ap all_zero rest) ∙ zero-parts flag_width b

  pub label-read : (o : Option ℕ) → r.number ≡ o → record { label = option_map (λ k. record { class = k; needs = n }) o; blank = r.blank && eqb n 0 } ≡ label_of b
  unfolding label_from
  label-read (Some k) h =
      let s = flag-set b r e k h in
      let z = label-blank in
      rw s.0 (λ i. record { label = Some (record { class = s.1 i; needs = p i }); blank = z i })
  label-read None h = let z = label-blank in rw (flag-off b r e h) (λ i. record { label = None; blank = z i })

-- the form of a label's record, from what was read of it
pub label-formed : (b : List Bool) (r : LabelRead) → r ≡ label_of b → (present r.label || r.blank) ≡ label_form b
unfolding label_from label_form
label-formed b r e = ap (λ (k : LabelRead). present k.label || k.blank) e ∙ ap (λ (x : Bool). x || all_zero b) (same (first b) _)
  where
    same : (x : Bool) (v : Level) → present (cond x (Some v) None) ≡ x
    same true v = refl
    same false v = refl

-- ---- two sets

pub halves : (b : List Bool) → length b ≡ pair_width → (from_bits b / 16 ≡ rights_from b) × (from_bits b % 16 ≡ held_from b)
halves b l = (
  omega (arith, from_bits-split set_width set_width b l, from_bits-take set_width (drop set_width b)),
  omega (arith, from_bits-split set_width set_width b l, from_bits-take set_width (drop set_width b)),
)

-- ---- an object

-- behind its parent a record has no bit
parent-last : (b : List Bool) → length b ≡ object_width → take parent_width (drop parent_offset b) ≡ drop parent_offset b
parent-last b l = take_all parent_width (drop parent_offset b) (rw (length-drop parent_offset b) (omega arith))

-- a number that is 0 where its field has no bit set
field-blank : (b : List Bool) (i w n : ℕ) → n ≡ field_of b i w → eqb n 0 ≡ all_zero (take w (drop i b))
field-blank b i w n e = ap (λ (k : ℕ). eqb k 0) e ∙ sym (all_zero-from_bits (take w (drop i b)))

module _ (b : List Bool) (l : length b ≡ object_width) (f : FlagRead) (pf : f ≡ flag_of (take flag_width b))
    (a : LabelRead) (pa : a ≡ label_of (take label_width (drop label_offset b))) (n : ℕ) (pn : n ≡ field_of b companies_offset companies_width)
    (u : SetsRead) (pu : u ≡ sets_of (take sets_width (drop sets_offset b))) (p : ℕ) (pp : p ≡ field_of b parent_offset parent_width) where
  -- the sets, and the parent behind them
  sets-blank : (u.blank && eqb p 0) ≡ all_zero (drop sets_offset b)
  sets-blank =
      let d : take parent_width (drop parent_offset b) ≡ drop sets_width (drop sets_offset b) = parent-last b l ∙ sym (drop-drop sets_width sets_offset b) in
      ap₂ (λ (x y : Bool). x && y) (ap (λ (k : SetsRead). k.blank) pu) (field-blank b parent_offset parent_width p pp ∙ ap all_zero d)
      ∙ zero-parts sets_width (drop sets_offset b)

  -- the company numbers, and these behind them
  last-blank : (eqb n 0 && (u.blank && eqb p 0)) ≡ all_zero (drop companies_offset b)
  last-blank =
      ap₂ (λ (x y : Bool). x && y) (field-blank b companies_offset companies_width n pn)
      (sets-blank ∙ ap all_zero (sym (drop-drop companies_width companies_offset b)))
      ∙ zero-parts companies_width (drop companies_offset b)

  pub object-off : (ob : Object) → ob ≡ no_object → f.number ≡ None
      → record { object = ob; formed = f.blank && (a.blank && (eqb n 0 && (u.blank && eqb p 0))) } ≡ object_of b
  unfolding object_from object_form
  object-off ob e h =
      let tail = drop label_offset b in
      let last = eqb n 0 && (u.blank && eqb p 0) in
      let blank : (f.blank && (a.blank && last)) ≡ all_zero b =
      ap (λ (x : FlagRead). x.blank && (a.blank && last)) pf
      ∙ ap₂ (λ (x : LabelRead) (y : Bool). all_zero (take flag_width b) && (x.blank && y)) pa last-blank
      ∙ ap (λ (x : List Bool). all_zero (take flag_width b) && (all_zero (take label_width tail) && all_zero x)) (sym (drop-drop label_width label_offset b))
      ∙ ap (λ (x : Bool). all_zero (take flag_width b) && x) (zero-parts label_width tail) ∙ zero-parts flag_width b in
      rw (flag-off b f pf h) (λ i. record { object = e i; formed = blank i })

  -- what was read of a live one
  abbrev read-record : ℕ → Object
  read-record k = with_rows (with_parent (with_companies (with_label (with_owner no_object k) a.label) n) p) u.rights u.held

  pub object-on : (k : ℕ) (v : Bool) → v ≡ present a.label → f.number ≡ Some k → record { object = read-record k; formed = v || a.blank } ≡ object_of b
  unfolding object_from object_form
  object-on k v e h =
      let s = flag-set b f pf k h in
      let c = s.1 in
      let formed-eq = ap (λ (x : Bool). x || a.blank) e ∙ label-formed (take label_width (drop label_offset b)) a pa in
      rw s.0
      (λ i. record { object = with_rows (with_parent (with_companies (with_label (with_owner no_object (c i)) (pa i).label) (pn i)) (pp i)) (pu i).rights (pu i).held; formed = formed-eq i })
