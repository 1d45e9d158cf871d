-- Every list in which each of the four modes stands once is an order of them, and the holders printed add up to the total in each.
-- Assumes nothing.
use mathlib.Core.Path.{◌≡◌, refl, sym, ap, ◌∙◌}
use mathlib.Core.Bool.{true}
use mathlib.Core.List.{List, [], ◌∷◌}
use lib.ListN.{get_or}
use borrow.Author.Tests.{eqb-true, eq-eqb}
use Rattle.model.specs.declared.Mode.{Mode}
use Rattle.model.specs.declared.Mode.TheVariants.{Read, Write, Append, Execute}
use Rattle.model.specs.declared.Object.{Object}
use Rattle.orders.specs.Sums.{sum_over}
use Rattle.orders.specs.Orders.{OrderOf, times_in}
use Rattle.orders.proofs.Orders.{orders-counted}
use Rattle.page_sets.specs.Sets.{modes}
use Rattle.page.specs.Page.{page}
use Rattle.page.specs.Printed.{place, same_mode, holders_printed, total_printed}
use Rattle.page.proofs.Printed.{printed-in-any-order}

-- a mode is the one at its place
placed : (x : Mode) → get_or modes (place x) Read ≡ x
placed Read = refl
placed Write = refl
placed Append = refl
placed Execute = refl

same-mode : (x y : Mode) → same_mode x y ≡ true → x ≡ y
same-mode x y e = sym (placed x) ∙ ap (λ k. get_or modes k Read) (eqb-true (place x) (place y) e) ∙ placed y

each-once : (x : Mode) → times_in same_mode x modes ≡ 1
unfolding sum_over
each-once Read = refl
each-once Write = refl
each-once Append = refl
each-once Execute = refl

-- the orders of the four modes: each of them stands once
pub any_order : (ms : List Mode) → ((x : Mode) → times_in same_mode x ms ≡ 1) → OrderOf modes ms
any_order ms h = (orders-counted same_mode same-mode (λ x. eq-eqb (place x) (place x) refl) modes ms).1 (λ x. each-once x ∙ sym (h x))

-- "the sum over the four modes in any order is the same number"
pub printed-each-once : (ob : Object) (ms : List Mode) → ((x : Mode) → times_in same_mode x ms ≡ 1) → sum_over ms (holders_printed (page ob)) ≡ total_printed (page ob)
printed-each-once ob ms h = printed-in-any-order ob ms (any_order ms h)

-- computed: another order, and a list that is none
pub backwards-once : (x : Mode) → times_in same_mode x (Execute ∷ Append ∷ Write ∷ Read ∷ []) ≡ 1
unfolding sum_over
backwards-once Read = refl
backwards-once Write = refl
backwards-once Append = refl
backwards-once Execute = refl

pub twice-is-not-once : times_in same_mode Read (Read ∷ Read ∷ Write ∷ Append ∷ []) ≡ 2
unfolding sum_over
twice-is-not-once = refl
