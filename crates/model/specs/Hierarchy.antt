-- Objects under objects (change request §11): the parent of an object, the chain of parents above it, what is below it, and the rule of labels.
-- Assumes nothing.
use Rattle.std.specs.Prelude.{ℕ, zero, suc, ◌≡◌, Bool, true, false, cond, ◌&&◌, ◌||◌, List, [], ◌∷◌, eqb}
use Rattle.model.specs.declared.Object.{Object}
use Rattle.model.specs.Levels.{Label, Dominates, dominates, present}
use Rattle.model.specs.declared.Monitor.{Monitor}
use Rattle.model.specs.Tests.{all_below, all_of, implies}
use Rattle.model.specs.State.{object_count, no_object, object_at, object}

-- the parent of object o, "number plus one or 0"; what is not live is under nothing
abbrev pub parent_at : List Object → ℕ → ℕ
parent_at l o = cond (object_at l o).live (object_at l o).parent 0

-- ---- the chain above an object, from p, "number plus one or 0": that object, its parent, the parent's parent

-- object o is met on it
pub data Meets (l : List Object) (o : ℕ) : ℕ → Type 0 where
  here : Meets l o (suc o)
  further : (y : ℕ) → Meets l o (parent_at l y) → Meets l o (suc y)

-- it ends, at an object that has no parent
pub data Ends (l : List Object) : ℕ → Type 0 where
  none : Ends l zero
  onward : (y : ℕ) → Ends l (parent_at l y) → Ends l (suc y)

-- the tests: object o is among the first n of the chain; the chain has at most n objects
unfoldable pub meets : ℕ → List Object → ℕ → ℕ → Bool
meets zero l o p = false
meets (suc n) l o zero = false
meets (suc n) l o (suc y) = eqb y o || meets n l o (parent_at l y)

unfoldable pub ends : ℕ → List Object → ℕ → Bool
ends zero l zero = true
ends zero l (suc y) = false
ends (suc n) l zero = true
ends (suc n) l (suc y) = ends n l (parent_at l y)

-- ---- "Deleting an object deletes everything below it, child by child down to the last"

-- y is below o: o is met above it
abbrev pub Below : List Object → ℕ → ℕ → Type 0
Below l o y = Meets l o (parent_at l y)

-- no object is met twice before another, so that as many as there are objects are enough
abbrev pub below : List Object → ℕ → ℕ → Bool
below l o y = meets object_count l o (parent_at l y)

-- from place i on, the objects of which the test is not passed stay
unfoldable pub without : (ℕ → Bool) → ℕ → List Object → List Object
without gone i [] = []
without gone i (ob ∷ l) = cond (gone i) no_object ob ∷ without gone (suc i) l

-- all objects but those below o
abbrev pub without_below : ℕ → List Object → List Object
without_below o l = without (below l o) 0 l

-- some live object has o as its parent
unfoldable pub has_child : List Object → ℕ → Bool
has_child [] o = false
has_child (ob ∷ l) o = (ob.live && eqb ob.parent (suc o)) || has_child l o

-- ---- 19 and 20

-- "a parent that isn't live": no parent, or a live one
unfoldable pub parent_live : List Object → ℕ → Bool
parent_live l zero = true
parent_live l (suc p) = (object_at l p).live

-- no "parent that isn't live", no "parent bits above 64", since there is no such object, and no "chain of parents that does not end"
unfoldable pub parents_hold : List Object → Bool
parents_hold l = all_of (λ ob. parent_live l ob.parent) l && all_below object_count (λ o. ends object_count l (suc o))

-- "A labelled child has a labelled parent whose label it dominates": a label under a parent, "number plus one or 0"
unfoldable pub label_under : List Object → Label → ℕ → Bool
label_under l a zero = true
label_under l a (suc p) = implies (present a) (dominates a (object_at l p).label)

-- of all objects
unfoldable pub labels_rise : List Object → Bool
labels_rise l = all_of (λ ob. label_under l ob.label ob.parent) l

-- what every request keeps
pub record Hierarchy (m : Monitor) : Type 0 where
  -- a parent is live
  pub parents_live : (o p : ℕ) → (object m o).parent ≡ suc p → (object m p).live ≡ true
  -- "a chain of parents" ends
  pub chains_end : (o : ℕ) → Ends m.objects (suc o)
  -- "A labelled child has a labelled parent whose label it dominates"
  pub rising_labels : (o p : ℕ) → (object m o).parent ≡ suc p → present (object m o).label ≡ true → Dominates (object m o).label (object m p).label
