-- One thing is said of a fact.
use Rattle.std.proofs.Common.{ℕ, zero, suc, ◌≡◌, ◌<◌, List, [], ◌∷◌, ◌++◌, get_or, take, length, codes, refl, ap, append_assoc, append-nil, sym, subst, ◌∙◌, arith}
use Rattle.std.specs.List.{AllZip}
use Rattle.fault_system.specs.Systems.{System}
use Rattle.target_orders.specs.declared.order.Order.{Order}
use Rattle.target_orders.specs.declared.order.Order.TheVariants.{Always, Never, Large, Least}
use Rattle.target_orders.specs.Orders.{HoldsWithin, IsOrder, NeedsAtLeast}
use Rattle.target_orders.specs.Text.{TellsOrders, order_line, order_lines}

one-count : (system : System) (fact a b : ℕ) → HoldsWithin system fact a → NeedsAtLeast system fact a → HoldsWithin system fact b → NeedsAtLeast system fact b → a ≡ b
one-count system fact a b (set, cut, few) least (other, other_cut, other_few) other_least =
    omega (arith, few, other_few, least other other_cut, other_least set cut)

pub one-order : (system : System) (fact : ℕ) (a b : Order) → IsOrder system fact a → IsOrder system fact b → a ≡ b
one-order system fact Always Always x y = refl
one-order system fact Always Never x y = absurd (y ([], x))
one-order system fact Always Large x y = absurd (y.0 x)
one-order system fact Always (Least n) x y = absurd (y.0 x)
one-order system fact Never Always x y = absurd (x ([], y))
one-order system fact Never Never x y = refl
one-order system fact Never Large x y = absurd (x y.1)
one-order system fact Never (Least n) x y = absurd (x (y.2.0, y.2.1))
one-order system fact Large Always x y = absurd (x.0 y)
one-order system fact Large Never x y = absurd (y x.1)
one-order system fact Large Large x y = refl
one-order system fact Large (Least n) x y = absurd (y.1 x.2)
one-order system fact (Least n) Always x y = absurd (x.0 y)
one-order system fact (Least n) Never x y = absurd (y (x.2.0, x.2.1))
one-order system fact (Least n) Large x y = absurd (x.1 y.2)
one-order system fact (Least n) (Least m) x y = ap Least (one-count system fact n m x.2 x.3 y.2 y.3)

one-list : (system : System) (facts : List ℕ) (a b : List Order) → AllZip (IsOrder system) facts a → AllZip (IsOrder system) facts b → a ≡ b
one-list system [] [] [] x y = refl
one-list system [] [] (order ∷ b) x y = absurd y
one-list system [] (order ∷ a) b x y = absurd x
one-list system (fact ∷ facts) [] b x y = absurd x
one-list system (fact ∷ facts) (order ∷ a) [] x y = absurd y
one-list system (fact ∷ facts) (order ∷ a) (other ∷ b) x y =
    λ i. one-order system fact order other x.0 y.0 i ∷ one-list system facts a b x.1 y.1 i

pub one-text : (system : System) (facts a b : List ℕ) → TellsOrders system facts a → TellsOrders system facts b → a ≡ b
one-text system facts a b x y =
    x.text_is ∙ ap (λ orders. order_lines system facts orders ++ codes "end\n") (one-list system facts x.orders y.orders x.each y.each) ∙ sym y.text_is

-- one more pair
pub zip-more : {A B : Type 0} (R : A → B → Type 0) (xs : List A) (ys : List B) (i : ℕ) (x : A) (y : B) → i < length xs → x ≡ get_or xs i x → AllZip R (take i xs) ys → R x y → AllZip R (take (suc i) xs) (ys ++ y ∷ [])
zip-more R [] ys i x y within is zip here = absurd (omega arith)
zip-more R (z ∷ xs) [] zero x y within is zip here = (subst (λ v. R v y) is here, tt)
zip-more R (z ∷ xs) (w ∷ ys) zero x y within is zip here = absurd zip
zip-more R (z ∷ xs) [] (suc i) x y within is zip here = absurd zip
zip-more R (z ∷ xs) (w ∷ ys) (suc i) x y within is zip here = (zip.0, zip-more R xs ys i x y (omega arith) is zip.1 here)

-- one more line
pub lines-more : (system : System) (facts : List ℕ) (orders : List Order) (i : ℕ) (fact : ℕ) (order : Order) → i < length facts → fact ≡ get_or facts i 0 → AllZip (IsOrder system) (take i facts) orders
    → order_lines system (take (suc i) facts) (orders ++ order ∷ []) ≡ order_lines system (take i facts) orders ++ order_line system fact order
lines-more system [] orders i fact order within is zip = absurd (omega arith)
lines-more system (f ∷ facts) [] zero fact order within is zip = ap (λ n. order_line system n order ++ []) (sym is) ∙ append-nil (order_line system fact order)
lines-more system (f ∷ facts) (o ∷ orders) zero fact order within is zip = absurd zip
lines-more system (f ∷ facts) [] (suc i) fact order within is zip = absurd zip
lines-more system (f ∷ facts) (o ∷ orders) (suc i) fact order within is zip =
    ap (λ lines. order_line system f o ++ lines) (lines-more system facts orders i fact order (omega arith) is zip.1)
    ∙ sym (append_assoc (order_line system f o) (order_lines system (take i facts) orders) (order_line system fact order))
