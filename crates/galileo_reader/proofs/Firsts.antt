-- The first answer of a list, item by item.
use Rattle.std.proofs.Common.{ℕ, ◌+◌, ◌≡◌, ◌<◌, ◌≤◌, List, [], ◌∷◌, length, drop, get_or, Option, Some, None, ap, ◌∙◌, sym, refl}
use Rattle.std.specs.List.{AllByRecursion}
use Rattle.std.specs.Option.{option_or}
use Rattle.std.proofs.lemmas.List.{at_drop_more, at_drop_all}
use Rattle.galileo_reader.specs.Nodes.{first_some}

module _ {X Y : Type 0} (answer : X → Option Y) (xs : List X) (i : ℕ) (so_far : first_some answer (drop i xs) ≡ first_some answer xs) where
  here : (d : X) → i < length xs → option_or (answer (get_or xs i d)) (first_some answer (drop (i + 1) xs)) ≡ first_some answer xs
  here d inside = sym (at_drop_more (first_some answer) xs i d inside) ∙ so_far

  pub first-found : (d : X) (y : Y) → i < length xs → answer (get_or xs i d) ≡ Some y → Some y ≡ first_some answer xs
  first-found d y inside e = ap (λ o. option_or o (first_some answer (drop (i + 1) xs))) (sym e) ∙ here d inside

  pub first-next : (d : X) → i < length xs → answer (get_or xs i d) ≡ None → first_some answer (drop (i + 1) xs) ≡ first_some answer xs
  first-next d inside e = ap (λ o. option_or o (first_some answer (drop (i + 1) xs))) (sym e) ∙ here d inside

  pub first-none : length xs ≤ i → None ≡ first_some answer xs
  first-none over = sym (at_drop_all (first_some answer) xs i over) ∙ so_far

pub or-none-left : {Y : Type 0} (a b : Option Y) → option_or a b ≡ None → a ≡ None
or-none-left None b e = refl
or-none-left (Some y) b e = cc

pub or-none-right : {Y : Type 0} (a b : Option Y) → option_or a b ≡ None → b ≡ None
or-none-right None b e = e
or-none-right (Some y) b e = cc

-- where no item has an answer, none has
pub none-has : {X Y : Type 0} (answer : X → Option Y) (xs : List X) → first_some answer xs ≡ None → AllByRecursion (λ x. answer x ≡ None) xs
none-has answer [] e = tt
none-has answer (x ∷ xs) e = (or-none-left (answer x) (first_some answer xs) e, none-has answer xs (or-none-right (answer x) (first_some answer xs) e))
