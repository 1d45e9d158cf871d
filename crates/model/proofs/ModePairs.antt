-- The table of mode pairs: each entry is what the star property asks of its two modes, and the star property is the table's.
-- Assumes nothing.
use mathlib.Core.Path.{◌≡◌, refl, sym, ap₂, ◌∙◌}
use mathlib.Core.Logic.{◌↔◌, ◌≢◌}
use mathlib.Core.Bool.{Bool, true, false, ◌&&◌, ◌||◌, beq}
use Rattle.model.specs.Levels.{Label, Dominates, compare, level_dominates, dominates}
use Rattle.std.specs.Prelude.{Some, None}
use Rattle.model.specs.declared.Mode.{Mode}
use Rattle.model.specs.declared.Mode.TheVariants.{Read, Write, Append, Execute}
use Rattle.model.specs.declared.Monitor.{Monitor}
use Rattle.model.specs.Tests.{implies}
use Rattle.model.specs.Modes.{observes, alters, needs_label}
use Rattle.model.specs.Properties.{Star}
use Rattle.model.specs.ModePairs.{Asked, neither, wanted, held, both, entry, Kept, StarAsks, Tabled, asks_wanted, asks_held, kept}
use Rattle.model.proofs.Tests.{split, apart, clash, and_left, and_right, and_both, or_left, or_right, implies-in, implies-out, same_bool}
use Rattle.model.proofs.Modes.{all_modes, modes-out}
use Rattle.model.proofs.Levels.{dominates-decides, dominates-refl}

-- ---- what each word asks

-- two labels of which one alone dominates the other
abbrev low : Label
low = Some (record { class = 0; needs = 0 })

abbrev high : Label
high = Some (record { class = 1; needs = 0 })

high-low : Dominates high low
unfolding dominates level_dominates compare
high-low = (dominates-decides high low).0 refl

low-low : Dominates low low
unfolding dominates level_dominates compare
low-low = (dominates-decides low low).0 refl

low-high : {P : Type 0} → Dominates low high → P
unfolding dominates level_dominates compare
low-high d = apart ((dominates-decides low high).1 d) refl

-- computed: an object held that is labelled above the one wanted, the other way, and both alike
pub each_word : Kept neither high low × Kept neither low high
    × Kept wanted low high × (Kept wanted high low → ⊥)
    × Kept held high low × (Kept held low high → ⊥)
    × Kept both low low × (Kept both high low → ⊥) × (Kept both low high → ⊥)
each_word = (tt, tt, high-low, low-high, high-low, low-high, (low-low, low-low), λ k. low-high k.0, λ k. low-high k.1)

-- ---- each entry

-- a test at each two modes
pub pairs-out : (f : Mode → Mode → Bool) → all_modes (λ x. all_modes (f x)) ≡ true → (x y : Mode) → f x y ≡ true
pairs-out f e x y = modes-out (f x) (modes-out (λ x. all_modes (f x)) e x) y

-- the test over the sixteen entries: the label wanted where the mode held observes and the one wanted alters, the label held the other way
abbrev as_star : Mode → Mode → Bool
as_star x y = beq (asks_wanted (entry x y)) (observes x && alters y) && beq (asks_held (entry x y)) (observes y && alters x)

sixteen : all_modes (λ x. all_modes (as_star x)) ≡ true
sixteen = refl

pub asks-wanted : (x y : Mode) → asks_wanted (entry x y) ≡ (observes x && alters y)
asks-wanted x y = same_bool _ _ (and_left (beq (asks_wanted (entry x y)) (observes x && alters y)) _ (pairs-out as_star sixteen x y))

pub asks-held : (x y : Mode) → asks_held (entry x y) ≡ (observes y && alters x)
asks-held x y = same_bool _ _ (and_right (beq (asks_wanted (entry x y)) (observes x && alters y)) _ (pairs-out as_star sixteen x y))

-- some mode passes the test
abbrev some : (Mode → Bool) → Bool
some f = f Read || (f Write || (f Append || f Execute))

-- a mode observes where an entry of its row asks that the label of the object wanted dominate, and alters where one asks it of that of
-- its own object, which is held
pub row-observes : (x : Mode) → some (λ y. asks_wanted (entry x y)) ≡ observes x
row-observes x = same_bool _ _ (modes-out (λ x. beq (some (λ y. asks_wanted (entry x y))) (observes x)) refl x)

pub row-alters : (x : Mode) → some (λ y. asks_held (entry x y)) ≡ alters x
row-alters x = same_bool _ _ (modes-out (λ x. beq (some (λ y. asks_held (entry x y))) (alters x)) refl x)

-- what an entry asks, by the two tests
pub kept_by : (a : Asked) (p q : Label) → Kept a p q ↔ ((asks_wanted a ≡ true → Dominates q p) × (asks_held a ≡ true → Dominates p q))
kept_by neither p q = (λ k. (λ e. clash (sym e), λ e. clash (sym e)), λ h. tt)
kept_by wanted p q = (λ k. (λ e. k, λ e. clash (sym e)), λ h. h.0 refl)
kept_by held p q = (λ k. (λ e. clash (sym e), λ e. k), λ h. h.1 refl)
kept_by both p q = (λ k. (λ e. k.0, λ e. k.1), λ h. (h.0 refl, h.1 refl))

-- the test says it
pub kept-decides : (a : Asked) (p q : Label) → (kept a p q ≡ true) ↔ Kept a p q
unfolding kept
kept-decides a p q =
    let b = kept_by a p q in (
      λ e. b.1 (
        λ w. (dominates-decides q p).0 (implies-out _ _ (and_left (implies (asks_wanted a) (dominates q p)) _ e) w),
        λ w. (dominates-decides p q).0 (implies-out _ _ (and_right (implies (asks_wanted a) (dominates q p)) _ e) w),
      ),
      λ k. and_both (implies-in _ _ (λ w. (dominates-decides q p).1 ((b.0 k).0 w))) (implies-in _ _ (λ w. (dominates-decides p q).1 ((b.0 k).1 w))),
    )

-- "each of its sixteen entries is proved to be what the star property asks of those two modes"
pub entry-star : (x y : Mode) (p q : Label) → Kept (entry x y) p q ↔ StarAsks x y p q
entry-star x y p q =
    let w = asks-wanted x y in
    let h = asks-held x y in (
      λ k. let d = (kept_by (entry x y) p q).0 k in (λ o a. d.0 (w ∙ and_both o a), λ o a. d.1 (h ∙ and_both o a)),
      λ d. (kept_by (entry x y) p q).1 (
        λ e. d.0 (and_left (observes x) _ (sym w ∙ e)) (and_right (observes x) _ (sym w ∙ e)),
        λ e. d.1 (and_left (observes y) _ (sym h ∙ e)) (and_right (observes y) _ (sym h ∙ e)),
      ),
    )

-- ---- and no other table has this

-- by these two an entry is known
wanted-shown : (a : Asked) → Kept a high low → asks_wanted a ≡ false
wanted-shown a k = split (asks_wanted a) (λ e. low-high (((kept_by a high low).0 k).0 e)) (λ e. e)

shown-wanted : (a : Asked) → asks_wanted a ≡ false → Kept a high low
shown-wanted a f = (kept_by a high low).1 (λ e. apart e f, λ e. high-low)

held-shown : (a : Asked) → Kept a low high → asks_held a ≡ false
held-shown a k = split (asks_held a) (λ e. low-high (((kept_by a low high).0 k).1 e)) (λ e. e)

shown-held : (a : Asked) → asks_held a ≡ false → Kept a low high
shown-held a f = (kept_by a low high).1 (λ e. high-low, λ e. apart e f)

abbrev asked : Bool → Bool → Asked
asked true true = both
asked true false = wanted
asked false true = held
asked false false = neither

asked-back : (a : Asked) → asked (asks_wanted a) (asks_held a) ≡ a
asked-back neither = refl
asked-back wanted = refl
asked-back held = refl
asked-back both = refl

off-same : (a b : Bool) → (a ≡ false → b ≡ false) → (b ≡ false → a ≡ false) → a ≡ b
off-same true b f g = split b (λ e. sym e) (λ e. clash (g e))
off-same false b f g = sym (f refl)

-- two entries that ask the same of all labels are one
pub same_asked : (a b : Asked) → ((p q : Label) → Kept a p q ↔ Kept b p q) → a ≡ b
same_asked a b h =
    let w : asks_wanted a ≡ asks_wanted b =
    off-same _ _ (λ e. wanted-shown b ((h high low).0 (shown-wanted a e))) (λ e. wanted-shown a ((h high low).1 (shown-wanted b e))) in
    let u : asks_held a ≡ asks_held b =
    off-same _ _ (λ e. held-shown b ((h low high).0 (shown-held a e))) (λ e. held-shown a ((h low high).1 (shown-held b e))) in
    sym (asked-back a) ∙ ap₂ asked w u ∙ asked-back b

pub entry-only : (x y : Mode) (a : Asked) → ((p q : Label) → Kept a p q ↔ StarAsks x y p q) → a ≡ entry x y
entry-only x y a h =
    same_asked a (entry x y) (λ p q. (λ k. (entry-star x y p q).1 ((h p q).0 k), λ k. (h p q).1 ((entry-star x y p q).0 k)))

-- ---- two accesses

-- what is held and what is wanted may be exchanged
pub turned : (x y : Mode) (p q : Label) → Kept (entry x y) p q → Kept (entry y x) q p
turned x y p q k = let d = (entry-star x y p q).0 k in (entry-star y x q p).1 (d.1, d.0)

-- two accesses to one object, labelled where one of them needs it, ask nothing
pub same_object : (x y : Mode) (l : Label) → (needs_label x ≡ true → l ≢ None) → Kept (entry x y) l l
same_object x y l h =
    (entry-star x y l l).1 (λ o a. dominates-refl l (h (or_left (observes x) (alters x) o)), λ o a. dominates-refl l (h (or_right (observes x) (alters x) a)))

-- ---- the star property

-- the star property is the table's, over all pairs of accesses
pub star-table : (m : Monitor) → Star m ↔ Tabled m
star-table m = (
  λ T s p q x y h k. (entry-star x y _ _).1 (λ o a. T s p q x y h o k a, λ o a. T s q p y x k o h a),
  λ T s p q x y h o k a. ((entry-star x y _ _).0 (T s p q x y h k)).0 o a,
)
