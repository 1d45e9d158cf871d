-- A request's six bytes ("Requests" in the scope): its fields, the rules for unused ones, what it says, and how it is packed.
-- Assumes nothing.
use Rattle.std.specs.Prelude.{ℕ, ◌+◌, ◌<◌, ◌≤◌, Bool, cond, ◌&&◌, ◌||◌, List, ◌++◌, length, leb, ltb, eqb, Option, Some, None}
use Rattle.bits.specs.Bits.{field, to_bits, bits_to_bytes}
use Rattle.model.specs.declared.Mode.{Mode}
use Rattle.model.specs.declared.Mode.TheVariants.{Read, Write, Append, Execute}
use Rattle.model.specs.declared.Level.{Level}
use Rattle.model.specs.declared.Profile.{Profile}
use Rattle.model.specs.declared.Fields.{Fields}
use Rattle.model.specs.declared.Creation.{Creation}
use Rattle.model.specs.declared.Request.{Request}
use Rattle.model.specs.declared.Request.TheVariants.{Get, Release, Give, Rescind, Create, Delete, ChangeLevel, SetCompanies}
use Rattle.model.specs.Tests.{implies}
use Rattle.model.specs.State.{subject_count, object_count, class_width, needs_width, LevelFits}
use Rattle.model.specs.Profiles.{level_inside, LevelInside}

-- "Six bytes"
abbrev pub request_size : ℕ
request_size = 6

-- "kind 4 bits, actor 5, other subject 5, object 7, mode 3, class 4, needs 16, spare 4": how wide each field is, and where it begins
abbrev pub kind_width : ℕ
kind_width = 4

abbrev pub actor_width : ℕ
actor_width = 5

abbrev pub actor_offset : ℕ
actor_offset = kind_width

abbrev pub other_width : ℕ
other_width = 5

abbrev pub other_offset : ℕ
other_offset = actor_offset + actor_width

abbrev pub object_number_width : ℕ
object_number_width = 7

abbrev pub object_number_offset : ℕ
object_number_offset = other_offset + other_width

abbrev pub mode_width : ℕ
mode_width = 3

abbrev pub mode_offset : ℕ
mode_offset = object_number_offset + object_number_width

abbrev pub class_offset : ℕ
class_offset = mode_offset + mode_width

abbrev pub needs_offset : ℕ
needs_offset = class_offset + class_width

abbrev pub spare_width : ℕ
spare_width = 4

abbrev pub spare_offset : ℕ
spare_offset = needs_offset + needs_width

unfoldable pub fields : List ℕ → Fields
fields b =
    record {
      kind = field b 0 kind_width;
      actor = field b actor_offset actor_width;
      other = field b other_offset other_width;
      object = field b object_number_offset object_number_width;
      mode = field b mode_offset mode_width;
      class = field b class_offset class_width;
      needs = field b needs_offset needs_width;
      spare = field b spare_offset spare_width;
    }

-- "Modes: 0 none, 1 r, 2 w, 3 a, 4 e"
abbrev pub mode_number : Mode → ℕ
mode_number Read = 1
mode_number Write = 2
mode_number Append = 3
mode_number Execute = 4

abbrev pub mode_of : ℕ → Mode
mode_of x = cond (eqb x 1) Read (cond (eqb x 2) Write (cond (eqb x 3) Append Execute))

-- "mode 1 to 4" for kinds 1 to 4, "mode 0 or 4" for create, "mode 0" for kinds 6 and 7, and "Request kind 8, mode 0" (change request §10)
unfoldable pub mode_allowed : ℕ → ℕ → Bool
mode_allowed kind mode =
    cond (leb kind 4) (leb 1 mode && leb mode 4)
    (cond (eqb kind 5) (eqb mode 0 || eqb mode 4)
    (eqb mode 0))

-- "A field that the kind does not use is 0, and so is spare; the other subject stands in kinds 3 and 4, class and needs in kind 7 only"; in
-- kind 8 "the needs field holding the four" company numbers (change request §10), and "Create carries the parent's number plus one in the
-- needs field, 0 for none" (change request §11)
unfoldable pub unused_zero : Fields → Bool
unused_zero f =
    (eqb f.kind 3 || (eqb f.kind 4 || eqb f.other 0))
    && ((eqb f.kind 7 || eqb f.class 0)
    && ((eqb f.kind 5 || (eqb f.kind 7 || (eqb f.kind 8 || eqb f.needs 0)))
    && eqb f.spare 0))

-- a parent's number plus one, of a create: "above 64, or for an object beyond the profile, it is malformed" (change request §11)
unfoldable pub parent_within : ℕ → Fields → Bool
parent_within n f = implies (eqb f.kind 5) (leb f.needs n)

-- the first row of "Refused causes", but for the length: what must be so of the fields under every profile
unfoldable pub fields_formed : Fields → Bool
fields_formed f =
    (leb 1 f.kind && leb f.kind 8)
    && (ltb f.actor subject_count
    && (ltb f.other subject_count
    && (ltb f.object object_count
    && (parent_within object_count f
    && (mode_allowed f.kind f.mode
    && unused_zero f)))))

-- the class and the needs of a request
abbrev pub level_of : Fields → Level
level_of f = record { class = f.class; needs = f.needs }

-- "A subject, object, class or need outside it in a request is malformed" (change request §8); the company numbers of kind 8 are "not
-- bounded by the profile" (change request §10), and of a create's parent "the profile's needs do not bound it" (change request §11)
unfoldable pub within : Profile → Fields → Bool
within p f =
    ltb f.actor p.subjects
    && (ltb f.other p.subjects
    && (ltb f.object p.objects
    && (parent_within p.objects f
    && (eqb f.kind 5 || (eqb f.kind 8 || level_inside p (level_of f))))))

-- what must be so of the fields for a monitor of a profile; the test under every profile stays beside it, so that a profile that says more
-- than sixteen subjects or sixty-four objects lets no other number pass
unfoldable pub well_formed : Profile → Fields → Bool
well_formed p f = fields_formed f && within p f

-- create with mode 4 gives the owner e too; p is "the parent's number plus one .., 0 for none" (change request §11)
abbrev pub creation : Bool → ℕ → Creation
creation e p = record { execute = e; parent = p }

-- the table of kinds
unfoldable pub request : Fields → Request
request f =
    cond (eqb f.kind 1) (Get f.actor f.object (mode_of f.mode))
    (cond (eqb f.kind 2) (Release f.actor f.object (mode_of f.mode))
    (cond (eqb f.kind 3) (Give f.actor f.other f.object (mode_of f.mode))
    (cond (eqb f.kind 4) (Rescind f.actor f.other f.object (mode_of f.mode))
    (cond (eqb f.kind 5) (Create f.actor f.object (creation (eqb f.mode 4) f.needs))
    (cond (eqb f.kind 6) (Delete f.actor f.object)
    (cond (eqb f.kind 7) (ChangeLevel f.actor f.object (level_of f))
    (SetCompanies f.actor f.object f.needs)))))))

-- what bytes say: a request, or none where they are malformed
abbrev pub Decoded : Type 0
Decoded = Option Request

unfoldable pub decode_fields : Profile → Fields → Decoded
decode_fields p f = cond (well_formed p f) (Some (request f)) None

-- what a byte string of any length says to a monitor of a profile
unfoldable pub decode : Profile → List ℕ → Decoded
decode p b = cond (eqb (length b) request_size) (decode_fields p (fields b)) None

-- ---- the other way: the bytes of a request

abbrev pub fields_of : Request → Fields
fields_of (Get s o x) = record { kind = 1; actor = s; other = 0; object = o; mode = mode_number x; class = 0; needs = 0; spare = 0 }
fields_of (Release s o x) = record { kind = 2; actor = s; other = 0; object = o; mode = mode_number x; class = 0; needs = 0; spare = 0 }
fields_of (Give s t o x) = record { kind = 3; actor = s; other = t; object = o; mode = mode_number x; class = 0; needs = 0; spare = 0 }
fields_of (Rescind s t o x) = record { kind = 4; actor = s; other = t; object = o; mode = mode_number x; class = 0; needs = 0; spare = 0 }
fields_of (Create s o c) = record { kind = 5; actor = s; other = 0; object = o; mode = cond c.execute 4 0; class = 0; needs = c.parent; spare = 0 }
fields_of (Delete s o) = record { kind = 6; actor = s; other = 0; object = o; mode = 0; class = 0; needs = 0; spare = 0 }
fields_of (ChangeLevel s o l) = record { kind = 7; actor = s; other = 0; object = o; mode = 0; class = l.class; needs = l.needs; spare = 0 }
fields_of (SetCompanies s o n) = record { kind = 8; actor = s; other = 0; object = o; mode = 0; class = 0; needs = n; spare = 0 }

-- "bit-packed, most significant first"
abbrev pub packed_bits : Fields → List Bool
packed_bits f =
    to_bits kind_width f.kind ++ (to_bits actor_width f.actor ++ (to_bits other_width f.other ++ (to_bits object_number_width f.object
    ++ (to_bits mode_width f.mode ++ (to_bits class_width f.class ++ (to_bits needs_width f.needs ++ to_bits spare_width f.spare))))))

unfoldable pub pack : Fields → List ℕ
pack f = bits_to_bytes request_size (packed_bits f)

abbrev pub encode : Request → List ℕ
encode q = pack (fields_of q)

-- "Sixteen subjects, 0 to 15", "Sixty-four objects, 0 to 63": the numbers of a request are in range
abbrev pub InRange : Request → Type 0
InRange (Get s o x) = (s < subject_count) × (o < object_count)
InRange (Release s o x) = (s < subject_count) × (o < object_count)
InRange (Give s t o x) = (s < subject_count) × (t < subject_count) × (o < object_count)
InRange (Rescind s t o x) = (s < subject_count) × (t < subject_count) × (o < object_count)
InRange (Create s o c) = (s < subject_count) × (o < object_count) × (c.parent ≤ object_count)
InRange (Delete s o) = (s < subject_count) × (o < object_count)
InRange (ChangeLevel s o l) = (s < subject_count) × (o < object_count) × LevelFits l
InRange (SetCompanies s o n) = (s < subject_count) × (o < object_count) × (n < 65536)

-- no "subject, object, class or need outside" the profile in a request (change request §8)
abbrev pub Within : Profile → Request → Type 0
Within p (Get s o x) = (s < p.subjects) × (o < p.objects)
Within p (Release s o x) = (s < p.subjects) × (o < p.objects)
Within p (Give s t o x) = (s < p.subjects) × (t < p.subjects) × (o < p.objects)
Within p (Rescind s t o x) = (s < p.subjects) × (t < p.subjects) × (o < p.objects)
Within p (Create s o c) = (s < p.subjects) × (o < p.objects) × (c.parent ≤ p.objects)
Within p (Delete s o) = (s < p.subjects) × (o < p.objects)
Within p (ChangeLevel s o l) = (s < p.subjects) × (o < p.objects) × LevelInside p l
Within p (SetCompanies s o n) = (s < p.subjects) × (o < p.objects)
