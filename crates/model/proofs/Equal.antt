-- When two records, or two states, are the same: field by field, set by set, and after a store of what stood there.
-- Assumes nothing.
use Prim.Native.Nat.{ℕ, ◌<◌}
use native.Mathlib.Omega.{arith}
use mathlib.Core.Path.{◌≡◌, refl, sym, ap, ◌∙◌}
use mathlib.Core.List.{List}
use lib.ListN.{length, get_or, set}
use lib.Seq.{ext_get_or, set-set, set-get_or}
use Rattle.model.specs.Levels.{Label}
use Rattle.model.specs.declared.Subject.{Subject}
use Rattle.model.specs.declared.Object.{Object}
use Rattle.model.specs.declared.Monitor.{Monitor}
use Rattle.model.specs.declared.Mode.{Mode}
use Rattle.model.specs.Modes.{has}
use Rattle.model.specs.State.{nobody, no_object, clearance, object, rights_of, held_by, with_rights, with_held, with_label, with_companies, with_object, WellFormedObject, WellFormed}
use Rattle.model.proofs.Modes.{modes-ext}

-- ---- field by field

pub object-ext : (a b : Object) → a.live ≡ b.live → a.owner ≡ b.owner → a.label ≡ b.label → a.companies ≡ b.companies
    → a.rights ≡ b.rights → a.held ≡ b.held → a.parent ≡ b.parent → a ≡ b
object-ext a b live owner label companies rights held parent =
    λ i. record { live = live i; owner = owner i; label = label i; companies = companies i; rights = rights i; held = held i; parent = parent i }

pub monitor-ext : (m n : Monitor) → m.profile ≡ n.profile → m.subjects ≡ n.subjects → m.objects ≡ n.objects → m ≡ n
monitor-ext m n profile subjects objects = λ i. record { profile = profile i; subjects = subjects i; objects = objects i }

-- ---- set by set, subject by subject, object by object

-- two rows of sixteen sets that have the same modes
row-ext : (a b : List ℕ) → length a ≡ 16 → length b ≡ 16 → ((s : ℕ) → get_or a s 0 < 16) → ((s : ℕ) → get_or b s 0 < 16)
    → ((s : ℕ) → s < 16 → (x : Mode) → has x (get_or a s 0) ≡ has x (get_or b s 0)) → a ≡ b
row-ext a b p q u v h = ext_get_or 0 a b (p ∙ sym q) (λ s l. modes-ext _ _ (u s) (v s) (h s (omega (arith, p))))

pub object-same : {k l : List Subject} (a b : Object) → WellFormedObject k a → WellFormedObject l b
    → a.live ≡ b.live → a.owner ≡ b.owner → a.parent ≡ b.parent → a.label ≡ b.label → a.companies ≡ b.companies
    → ((s : ℕ) → s < 16 → (x : Mode) → has x (rights_of a s) ≡ has x (rights_of b s))
    → ((s : ℕ) → s < 16 → (x : Mode) → has x (held_by a s) ≡ has x (held_by b s)) → a ≡ b
object-same a b F G live owner parent label companies rights held =
    object-ext a b live owner label companies
    (row-ext a.rights b.rights F.shape.rights_length G.shape.rights_length F.shape.rights-fit G.shape.rights-fit rights)
    (row-ext a.held b.held F.shape.held_length G.shape.held_length F.shape.held_fit G.shape.held_fit held)
    parent

pub state-same : (m n : Monitor) → WellFormed m → WellFormed n → m.profile ≡ n.profile
    → ((s : ℕ) → s < 16 → clearance m s ≡ clearance n s) → ((o : ℕ) → o < 64 → object m o ≡ object n o) → m ≡ n
state-same m n M N profile clearances objects =
    monitor-ext m n profile
    (ext_get_or nobody m.subjects n.subjects (M.subjects_length ∙ sym N.subjects_length)
    (λ s h. ap (λ (l : Label). record { clearance = l }) (clearances s (omega (arith, M.subjects_length)))))
    (ext_get_or no_object m.objects n.objects (M.objects-length ∙ sym N.objects-length) (λ o h. objects o (omega (arith, M.objects-length))))

-- ---- a store of what stood there

pub with-rights-same : (ob : Object) (s n : ℕ) → n ≡ rights_of ob s → with_rights ob s n ≡ ob
with-rights-same ob s n e =
    object-ext (with_rights ob s n) ob refl refl refl refl (ap (λ (k : ℕ). set ob.rights s k) e ∙ set-get_or ob.rights s 0) refl refl

pub with-held-same : (ob : Object) (s n : ℕ) → n ≡ held_by ob s → with_held ob s n ≡ ob
with-held-same ob s n e =
    object-ext (with_held ob s n) ob refl refl refl refl refl (ap (λ (k : ℕ). set ob.held s k) e ∙ set-get_or ob.held s 0) refl

pub with-label-same : (ob : Object) (l : Label) → l ≡ ob.label → with_label ob l ≡ ob
with-label-same ob l e = object-ext (with_label ob l) ob refl refl e refl refl refl refl

pub with-companies-same : (ob : Object) (n : ℕ) → n ≡ ob.companies → with_companies ob n ≡ ob
with-companies-same ob n e = object-ext (with_companies ob n) ob refl refl refl e refl refl refl

pub with-object-same : (m : Monitor) (o : ℕ) (ob : Object) → ob ≡ object m o → with_object m o ob ≡ m
with-object-same m o ob e =
    monitor-ext (with_object m o ob) m refl refl (ap (λ (k : Object). set m.objects o k) e ∙ set-get_or m.objects o no_object)

-- what was stored in place of a record, and the record put back
pub with-object-back : (m : Monitor) (o : ℕ) (ob : Object) → with_object (with_object m o ob) o (object m o) ≡ m
with-object-back m o ob = monitor-ext _ m refl refl (set-set m.objects o ob (object m o) ∙ set-get_or m.objects o no_object)
