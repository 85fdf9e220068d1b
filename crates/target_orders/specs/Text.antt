-- The text of what it takes to make facts hold, a line each.
use Rattle.std.specs.Prelude.{ℕ, ◌≡◌, List, [], ◌∷◌, ◌++◌, codes, decimal}
use Rattle.std.specs.List.{AllZip}
use Rattle.fault_system.specs.Systems.{System, fact_name}
use Rattle.target_orders.specs.Orders.{IsOrder}
use Rattle.target_orders.specs.declared.order.Order.{Order}
use Rattle.target_orders.specs.declared.order.Order.TheVariants.{Always, Never, Large, Least}

-- what it takes, as it is written
abbrev pub order_text : Order → List ℕ
order_text Always = codes "always"
order_text Never = codes "never"
order_text Large = codes "large"
order_text (Least count) = decimal count

-- the line of a fact: its name, a blank, what it takes, and a line feed
abbrev pub order_line : System → ℕ → Order → List ℕ
order_line system fact order = fact_name system fact ++ ((32 ∷ []) ++ (order_text order ++ (10 ∷ [])))

-- the lines of facts
abbrev pub order_lines : System → List ℕ → List Order → List ℕ
order_lines system [] orders = []
order_lines system (fact ∷ facts) [] = []
order_lines system (fact ∷ facts) (order ∷ orders) = order_line system fact order ++ order_lines system facts orders

-- The text says of each of these facts, in their order, what it takes to make it hold, and then that it ends.
pub record TellsOrders (system : System) (facts : List ℕ) (text : List ℕ) : Type 0 where
  pub orders : List Order
  pub each : AllZip (IsOrder system) facts orders
  pub text_is : text ≡ order_lines system facts orders ++ codes "end\n"
