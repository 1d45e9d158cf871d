-- Rights lists: gives, and releases ("Gives in any order", change request §7), and what they leave.
-- Assumes nothing.
use Rattle.std.specs.Prelude.{ℕ, ◌≡◌, ◌↔◌, ◌⊎◌, List, Some}
use Rattle.model.specs.declared.Profile.{Profile}
use Rattle.model.specs.declared.Monitor.{Monitor}
use Rattle.model.specs.declared.Mode.{Mode}
use Rattle.model.specs.declared.Request.{Request}
use Rattle.model.specs.declared.Request.TheVariants.{Release, Give}
use Rattle.model.specs.State.{object}
use Rattle.model.specs.Properties.{Holds, Permits}
use Rattle.model.specs.Requests.{decode}
use Rattle.model.specs.Runs.{reply}
use Rattle.orders.specs.Orders.{Each, OneOf}
use Rattle.request_orders.specs.AnyOrder.{IsGranted}

-- bytes that say, to a monitor of the profile, a give of right x at object o to subject t, by some subject
abbrev pub Gives : Profile → ℕ → ℕ → Mode → List ℕ → Type 0
Gives k t o x b = (s : ℕ) × (decode k b ≡ Some (Give s t o x))

-- bytes that say that subject s releases access x on object o
abbrev pub Releases : Profile → ℕ → ℕ → Mode → List ℕ → Type 0
Releases k s o x b = decode k b ≡ Some (Release s o x)

-- "one list of gives": each element is bytes that say a give
abbrev pub IsGive : Profile → List ℕ → Type 0
IsGive k b = (t : ℕ) × (o : ℕ) × (x : Mode) × Gives k t o x b

-- "Releases": each element is bytes that say one
abbrev pub IsRelease : Profile → List ℕ → Type 0
IsRelease k b = (s : ℕ) × (o : ℕ) × (x : Mode) × Releases k s o x b

-- a request that is a give or a release
pub data GiveOrRelease : Request → Type 0 where
  give : (s t o : ℕ) (x : Mode) → GiveOrRelease (Give s t o x)
  release : (s o : ℕ) (x : Mode) → GiveOrRelease (Release s o x)

-- a list may have both, and malformed bytes: whatever request the bytes say is one of these
abbrev pub NothingElse : Profile → List ℕ → Type 0
NothingElse k b = (q : Request) → decode k b ≡ Some q → GiveOrRelease q

-- what such a list leaves of m, said without an order: the rights that were there and those of every give that is granted if it came alone;
-- the accesses that were held and that no release of the list is about; and all else as it was
pub record Left (bs : List (List ℕ)) (m n : Monitor) : Type 0 where
  pub rights : (t o : ℕ) (x : Mode) → Permits n t o x ↔ (Permits m t o x ⊎ OneOf (λ b. Gives m.profile t o x b × IsGranted (reply b m)) bs)
  pub accesses : (s o : ℕ) (x : Mode) → Holds n s o x ↔ (Holds m s o x × Each (λ b. Releases m.profile s o x b → ⊥) bs)
  pub profile : n.profile ≡ m.profile
  pub subjects : n.subjects ≡ m.subjects
  pub lives : (o : ℕ) → (object n o).live ≡ (object m o).live
  pub owners : (o : ℕ) → (object n o).owner ≡ (object m o).owner
  pub labels : (o : ℕ) → (object n o).label ≡ (object m o).label
  pub numbers : (o : ℕ) → (object n o).companies ≡ (object m o).companies
  pub parents : (o : ℕ) → (object n o).parent ≡ (object m o).parent
