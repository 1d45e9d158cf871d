-- Six bytes say each request whose numbers are in range, and say no other; a request that was decoded is packed into its bytes again.
-- Assumes nothing.
use Prim.Native.Nat.{ℕ, zero, suc, ◌^◌, ◌<◌, ◌≤◌}
use native.Mathlib.Omega.{arith}
use mathlib.Core.Path.{◌≡◌, refl, sym, ap, ◌∙◌, subst}
use mathlib.Core.Bool.{Bool, true, false, cond, ◌&&◌, ◌||◌}
use mathlib.Core.List.{List}
use lib.ListN.{length}
use lib.Dec.{eqb, ltb, leb}
use borrow.Author.Tests.{lt-ltb, ltb-true, eqb-true, eq-eqb, leb-true}
use Rattle.bits.specs.Bits.{Bytes}
use Rattle.model.specs.declared.Mode.{Mode}
use Rattle.model.specs.declared.Mode.TheVariants.{Read, Write, Append, Execute}
use Rattle.model.specs.declared.Profile.{Profile}
use Rattle.model.specs.declared.Fields.{Fields}
use Rattle.model.specs.declared.Request.{Request}
use Rattle.model.specs.declared.Request.TheVariants.{Get, Release, Give, Rescind, Create, Delete, ChangeLevel, SetCompanies}
use Rattle.model.specs.Requests.{Decoded, request_size, fields, mode_number, mode_of, mode_allowed, unused_zero, parent_within, fields_formed, well_formed, request, creation, decode_fields, decode, fields_of, pack, encode, InRange, Within}
use Rattle.std.specs.Prelude.{Some, None}
use Rattle.model.proofs.Tests.{and_left, and_right, and_both, or_cases, split, clash, apart, cond-true, cond-false, cond-all}
use Rattle.model.proofs.Within.{formed-of, within_of, well-formed, parent-within, within-parent, request-within, fields_of-within}
use Rattle.model.proofs.Packing.{FieldsFit, fields_fit, pack-length, fields-packed, packed-fields}

-- ---- what a request says, and back

mode-back : (x : Mode) → mode_of (mode_number x) ≡ x
mode-back Read = refl
mode-back Write = refl
mode-back Append = refl
mode-back Execute = refl

mode-moded : (x : Mode) → (leb 1 (mode_number x) && leb (mode_number x) 4) ≡ true
mode-moded Read = refl
mode-moded Write = refl
mode-moded Append = refl
mode-moded Execute = refl

mode-below : (x : Mode) → mode_number x < 2 ^ 3
mode-below Read = omega arith
mode-below Write = omega arith
mode-below Append = omega arith
mode-below Execute = omega arith

mode-number : (x : ℕ) → (leb 1 x && leb x 4) ≡ true → mode_number (mode_of x) ≡ x
mode-number zero e = clash (sym e)
mode-number (suc zero) e = refl
mode-number (suc (suc zero)) e = refl
mode-number (suc (suc (suc zero))) e = refl
mode-number (suc (suc (suc (suc zero)))) e = refl
mode-number (suc (suc (suc (suc (suc x))))) e = absurd (omega (arith, leb-true (suc (suc (suc (suc (suc x))))) 4 (and_right (leb 1 (suc (suc (suc (suc (suc x)))))) (leb (suc (suc (suc (suc (suc x))))) 4) e)))

create-number : (x : ℕ) → (eqb x 0 || eqb x 4) ≡ true → cond (eqb x 4) 4 0 ≡ x
create-number x e =
    or_cases (eqb x 0) (eqb x 4) e
    (λ q. let z : x ≡ 0 = eqb-true x 0 q in ap (λ (y : ℕ). cond (eqb y 4) 4 0) z ∙ sym z)
    (λ q. let z : x ≡ 4 = eqb-true x 4 q in ap (λ (y : ℕ). cond (eqb y 4) 4 0) z ∙ sym z)

-- the parts of the test of the fields
module _ (f : Fields) (e : fields_formed f ≡ true) where
  pub in-kinds : (leb 1 f.kind && leb f.kind 8) ≡ true
  unfolding fields_formed
  in-kinds = and_left (leb 1 f.kind && leb f.kind 8) _ e

  pub actor-in : f.actor < 16
  unfolding fields_formed
  actor-in = ltb-true _ _ (and_left (ltb f.actor 16) _ (and_right (leb 1 f.kind && leb f.kind 8) _ e))

  after-actor : (ltb f.other 16 && (ltb f.object 64 && (parent_within 64 f && (mode_allowed f.kind f.mode && unused_zero f)))) ≡ true
  unfolding fields_formed
  after-actor = and_right (ltb f.actor 16) _ (and_right (leb 1 f.kind && leb f.kind 8) _ e)

  pub other-in : f.other < 16
  other-in = ltb-true _ _ (and_left (ltb f.other 16) _ after-actor)

  pub object-in : f.object < 64
  object-in = ltb-true _ _ (and_left (ltb f.object 64) _ (and_right (ltb f.other 16) _ after-actor))

  pub last-two : (mode_allowed f.kind f.mode && unused_zero f) ≡ true
  last-two = and_right (parent_within 64 f) _ (and_right (ltb f.object 64) _ (and_right (ltb f.other 16) _ after-actor))

  pub parent_in : eqb f.kind 5 ≡ true → f.needs ≤ 64
  parent_in = parent-within 64 f (and_left (parent_within 64 f) _ (and_right (ltb f.object 64) _ (and_right (ltb f.other 16) _ after-actor)))

-- the parts of the test of unused fields, where its kind is known
module _ (k a t o x c n z : ℕ) where
  abbrev it : Fields
  it = record { kind = k; actor = a; other = t; object = o; mode = x; class = c; needs = n; spare = z }

  spare-zero : unused_zero it ≡ true → z ≡ 0
  unfolding unused_zero
  spare-zero e =
      eqb-true z 0
      (and_right (eqb k 5 || (eqb k 7 || (eqb k 8 || eqb n 0))) (eqb z 0) (and_right (eqb k 7 || eqb c 0) _ (and_right (eqb k 3 || (eqb k 4 || eqb t 0)) _ e)))

  other-zero : eqb k 3 ≡ false → eqb k 4 ≡ false → unused_zero it ≡ true → t ≡ 0
  unfolding unused_zero
  other-zero p q e =
      or_cases (eqb k 3) (eqb k 4 || eqb t 0) (and_left (eqb k 3 || (eqb k 4 || eqb t 0)) _ e) (λ w. apart w p)
      (λ w. or_cases (eqb k 4) (eqb t 0) w (λ v. apart v q) (λ v. eqb-true t 0 v))

  class-zero : eqb k 7 ≡ false → unused_zero it ≡ true → c ≡ 0
  unfolding unused_zero
  class-zero p e =
      or_cases (eqb k 7) (eqb c 0) (and_left (eqb k 7 || eqb c 0) _ (and_right (eqb k 3 || (eqb k 4 || eqb t 0)) _ e))
      (λ w. apart w p) (λ w. eqb-true c 0 w)

  needs-zero : eqb k 5 ≡ false → eqb k 7 ≡ false → eqb k 8 ≡ false → unused_zero it ≡ true → n ≡ 0
  unfolding unused_zero
  needs-zero j p q e =
      or_cases (eqb k 5) (eqb k 7 || (eqb k 8 || eqb n 0))
      (and_left (eqb k 5 || (eqb k 7 || (eqb k 8 || eqb n 0))) _ (and_right (eqb k 7 || eqb c 0) _ (and_right (eqb k 3 || (eqb k 4 || eqb t 0)) _ e)))
      (λ w. apart w j) (λ w. or_cases (eqb k 7) (eqb k 8 || eqb n 0) w (λ v. apart v p)
      (λ v. or_cases (eqb k 8) (eqb n 0) v (λ g. apart g q) (λ g. eqb-true n 0 g)))

  -- of a kind that has no level, where d is what its needs field holds
  plain_back : (u y d : ℕ) → eqb k 7 ≡ false → unused_zero it ≡ true → u ≡ t → y ≡ x → d ≡ n
      → ◌≡◌ {A = Fields} (record { kind = k; actor = a; other = u; object = o; mode = y; class = 0; needs = d; spare = 0 }) it
  plain_back u y d e h p q s =
      let r = sym (class-zero e h) in
      let v = sym (spare-zero h) in
      λ i. record { kind = k; actor = a; other = p i; object = o; mode = q i; class = r i; needs = s i; spare = v i }

beyond-eight : {P : Type 0} (k : ℕ) → (leb 1 k && leb k 8) ≡ true → 8 < k → P
beyond-eight k h g = absurd (omega (arith, g, leb-true k 8 (and_right (leb 1 k) (leb k 8) h)))

-- the fields of the request that well-formed fields say
request-fields : (k a t o x c n z : ℕ) → (leb 1 k && leb k 8) ≡ true → mode_allowed k x ≡ true → unused_zero (it k a t o x c n z) ≡ true
    → fields_of (request (it k a t o x c n z)) ≡ it k a t o x c n z
unfolding request mode_allowed
request-fields zero a t o x c n z h m u = clash (sym h)
request-fields (suc zero) a t o x c n z h m u =
    plain_back 1 a t o x c n z 0 _ 0 refl u (sym (other-zero 1 a t o x c n z refl refl u)) (mode-number x m) (sym (needs-zero 1 a t o x c n z refl refl refl u))
request-fields (suc (suc zero)) a t o x c n z h m u =
    plain_back 2 a t o x c n z 0 _ 0 refl u (sym (other-zero 2 a t o x c n z refl refl u)) (mode-number x m) (sym (needs-zero 2 a t o x c n z refl refl refl u))
request-fields (suc (suc (suc zero))) a t o x c n z h m u =
    plain_back 3 a t o x c n z t _ 0 refl u refl (mode-number x m) (sym (needs-zero 3 a t o x c n z refl refl refl u))
request-fields (suc (suc (suc (suc zero)))) a t o x c n z h m u =
    plain_back 4 a t o x c n z t _ 0 refl u refl (mode-number x m) (sym (needs-zero 4 a t o x c n z refl refl refl u))
request-fields (suc (suc (suc (suc (suc zero))))) a t o x c n z h m u =
    plain_back 5 a t o x c n z 0 _ n refl u (sym (other-zero 5 a t o x c n z refl refl u)) (create-number x m) refl
request-fields (suc (suc (suc (suc (suc (suc zero)))))) a t o x c n z h m u =
    plain_back 6 a t o x c n z 0 0 0 refl u (sym (other-zero 6 a t o x c n z refl refl u)) (sym (eqb-true x 0 m)) (sym (needs-zero 6 a t o x c n z refl refl refl u))
request-fields (suc (suc (suc (suc (suc (suc (suc zero))))))) a t o x c n z h m u =
    let p = other-zero 7 a t o x c n z refl refl u in
    let q = eqb-true x 0 m in
    let r = spare-zero 7 a t o x c n z u in
    λ i. record { kind = 7; actor = a; other = sym p i; object = o; mode = sym q i; class = c; needs = n; spare = sym r i }
request-fields (suc (suc (suc (suc (suc (suc (suc (suc zero)))))))) a t o x c n z h m u =
    plain_back 8 a t o x c n z 0 0 n refl u (sym (other-zero 8 a t o x c n z refl refl u)) (sym (eqb-true x 0 m)) refl
request-fields (suc (suc (suc (suc (suc (suc (suc (suc (suc k))))))))) a t o x c n z h m u =
    beyond-eight (suc (suc (suc (suc (suc (suc (suc (suc (suc k))))))))) h (omega arith)

-- what the fields say is in range
request-in : (f : Fields) → FieldsFit f → fields_formed f ≡ true → InRange (request f)
unfolding request
request-in f F e =
    let a = actor-in f e in
    let t = other-in f e in
    let o = object-in f e in
    pick (eqb f.kind 1) _ _ (a, o)
    (pick (eqb f.kind 2) _ _ (a, o)
    (pick (eqb f.kind 3) _ _ (a, t, o)
    (pick (eqb f.kind 4) _ _ (a, t, o)
    (cond-all InRange (eqb f.kind 5) _ _ (λ k. (a, o, parent_in f e k)) (λ k.
    pick (eqb f.kind 6) _ _ (a, o)
    (pick (eqb f.kind 7) _ _ (a, o, (F.class, F.needs)) (a, o, F.needs)))))))
  where
    pick : (b : Bool) (x y : Request) → InRange x → InRange y → InRange (cond b x y)
    pick true x y p q = p
    pick false x y p q = q

-- ---- decoding

-- what a byte string that is not malformed says: its length, its fields, the request
pub decode-says : (p : Profile) (b : List ℕ) (q : Request) → decode p b ≡ Some q → (length b ≡ request_size) × (well_formed p (fields b) ≡ true) × (request (fields b) ≡ q)
unfolding decode decode_fields
decode-says p b q e =
    split (eqb (length b) 6)
    (λ w. split (well_formed p (fields b))
    (λ v. (eqb-true (length b) 6 w, v, says-inj (sym (cond-true _ _ _ v) ∙ sym (cond-true _ _ _ w) ∙ e)))
    (λ v. says-not (sym (cond-false _ _ _ v) ∙ sym (cond-true _ _ _ w) ∙ e)))
    (λ w. says-not (sym (cond-false _ _ _ w) ∙ e))
  where
    said : Decoded → Request
    said None = q
    said (Some r) = r

    says-inj : {r : Request} → Some r ≡ Some q → r ≡ q
    says-inj p = ap said p

    is_says : Decoded → Bool
    is_says None = false
    is_says (Some r) = true

    says-not : {P : Type 0} → None ≡ Some q → P
    says-not p = clash (sym (ap is_says p))

pub says-decode : (p : Profile) (b : List ℕ) → length b ≡ request_size → well_formed p (fields b) ≡ true → decode p b ≡ Some (request (fields b))
unfolding decode decode_fields
says-decode p b l w = cond-true _ _ _ (eq-eqb (length b) 6 l) ∙ cond-true _ _ _ w

-- under every profile
pub decode-range : (p : Profile) (b : List ℕ) (q : Request) → decode p b ≡ Some q → InRange q
decode-range p b q e =
    let d = decode-says p b q e in
    subst InRange d.2 (request-in (fields b) (fields_fit b) (formed-of p (fields b) d.1))

-- and inside it
pub decode-within : (p : Profile) (b : List ℕ) (q : Request) → decode p b ≡ Some q → Within p q
decode-within p b q e =
    let d = decode-says p b q e in
    subst (Within p) d.2 (request-within p (fields b) (within_of p (fields b) d.1))

-- a request that decodes encodes back to its bytes
pub decode-encode : (p : Profile) (b : List ℕ) (q : Request) → Bytes b → decode p b ≡ Some q → encode q ≡ b
decode-encode p b q hb e =
    let d = decode-says p b q e in
    let f = fields b in
    let w = formed-of p f d.1 in
    let back : fields_of (request f) ≡ f =
    request-fields f.kind f.actor f.other f.object f.mode f.class f.needs f.spare
    (in-kinds f w) (and_left (mode_allowed f.kind f.mode) _ (last-two f w)) (and_right (mode_allowed f.kind f.mode) _ (last-two f w)) in
    ap encode (sym d.2) ∙ ap pack back ∙ packed-fields b hb d.0

-- ---- encoding

-- the mode of a create: "mode 0 or 4"
create-mode-below : (e : Bool) → cond e 4 0 < 8
create-mode-below true = omega arith
create-mode-below false = omega arith

create-moded : (e : Bool) → mode_allowed 5 (cond e 4 0) ≡ true
unfolding mode_allowed
create-moded true = refl
create-moded false = refl

create-back : (e : Bool) → eqb (cond e 4 0) 4 ≡ e
create-back true = refl
create-back false = refl

fields_of-fit : (q : Request) → InRange q → FieldsFit (fields_of q)
fields_of-fit (Get s o x) r = omega (arith, r.0, r.1, mode-below x)
fields_of-fit (Release s o x) r = omega (arith, r.0, r.1, mode-below x)
fields_of-fit (Give s t o x) r = omega (arith, r.0, r.1, r.2, mode-below x)
fields_of-fit (Rescind s t o x) r = omega (arith, r.0, r.1, r.2, mode-below x)
fields_of-fit (Create s o c) r = omega (arith, r.0, r.1, r.2, create-mode-below c.execute)
fields_of-fit (Delete s o) r = omega (arith, r.0, r.1)
fields_of-fit (ChangeLevel s o l) r = omega (arith, r.0, r.1, r.2.0, r.2.1)
fields_of-fit (SetCompanies s o n) r = omega (arith, r.0, r.1, r.2)

pub in-range : (f : Fields) → (leb 1 f.kind && leb f.kind 8) ≡ true → f.actor < 16 → f.other < 16 → f.object < 64
    → (eqb f.kind 5 ≡ true → f.needs ≤ 64) → mode_allowed f.kind f.mode ≡ true → unused_zero f ≡ true → fields_formed f ≡ true
unfolding fields_formed
in-range f k a t o p m u =
    and_both k (and_both (lt-ltb _ _ a) (and_both (lt-ltb _ _ t) (and_both (lt-ltb _ _ o) (and_both (within-parent 64 f p) (and_both m u)))))

fields_of-formed : (q : Request) → InRange q → fields_formed (fields_of q) ≡ true
unfolding mode_allowed unused_zero
fields_of-formed (Get s o x) r = in-range _ refl r.0 (omega arith) r.1 (λ k. clash (sym k)) (mode-moded x) refl
fields_of-formed (Release s o x) r = in-range _ refl r.0 (omega arith) r.1 (λ k. clash (sym k)) (mode-moded x) refl
fields_of-formed (Give s t o x) r = in-range _ refl r.0 r.1 r.2 (λ k. clash (sym k)) (mode-moded x) refl
fields_of-formed (Rescind s t o x) r = in-range _ refl r.0 r.1 r.2 (λ k. clash (sym k)) (mode-moded x) refl
fields_of-formed (Create s o c) r = in-range _ refl r.0 (omega arith) r.1 (λ k. r.2) (create-moded c.execute) refl
fields_of-formed (Delete s o) r = in-range _ refl r.0 (omega arith) r.1 (λ k. clash (sym k)) refl refl
fields_of-formed (ChangeLevel s o l) r = in-range _ refl r.0 (omega arith) r.1 (λ k. clash (sym k)) refl refl
fields_of-formed (SetCompanies s o n) r = in-range _ refl r.0 (omega arith) r.1 (λ k. clash (sym k)) refl refl

request-back : (q : Request) → request (fields_of q) ≡ q
unfolding request
request-back (Get s o x) = ap (Get s o) (mode-back x)
request-back (Release s o x) = ap (Release s o) (mode-back x)
request-back (Give s t o x) = ap (Give s t o) (mode-back x)
request-back (Rescind s t o x) = ap (Rescind s t o) (mode-back x)
request-back (Create s o c) = ap (λ (e : Bool). Create s o (creation e c.parent)) (create-back c.execute)
request-back (Delete s o) = refl
request-back (ChangeLevel s o l) = refl
request-back (SetCompanies s o n) = refl

-- six bytes say each request in range and inside the profile
pub encode-decode : (p : Profile) (q : Request) → InRange q → Within p q → decode p (encode q) ≡ Some q
encode-decode p q r v =
    let f = fields-packed (fields_of q) (fields_of-fit q r) in
    says-decode p (encode q) (pack-length (fields_of q)) (ap (well_formed p) f ∙ well-formed p (fields_of q) (fields_of-formed q r) (fields_of-within p q v)) ∙ ap (λ (g : Fields). Some (request g)) f ∙ ap Some (request-back q)
