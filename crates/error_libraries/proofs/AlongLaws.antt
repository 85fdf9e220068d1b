-- The search for a name in libraries, one after the other.
use Rattle.std.proofs.Common.{ℕ, suc, ◌+◌, ◌≡◌, ◌<◌, List, ◌∷◌, length, drop, get_or, Option, sym, ap, ◌∙◌, add-one, drop-cons}
use Rattle.plain_values.specs.declared.refusal.Refusal.{Refusal}
use Rattle.plain_values.specs.Order.{nearer}
use Rattle.plain_values.proofs.OrderLaws.{nearer-assoc}
use Rattle.error_libraries.specs.declared.id.Looked.{Looked}
use Rattle.error_libraries.specs.declared.id.Looked.TheVariants.{Nowhere}
use Rattle.error_libraries.specs.Libraries.{Library}
use Rattle.error_libraries.specs.Search.{or_hit, search, search_along}

module _ (libraries : List Library) (name : List ℕ) (numbers : List ℕ) (i number : ℕ) (within : i < length numbers) (is : number ≡ get_or numbers i number) where
  split : drop i numbers ≡ number ∷ drop (i + 1) numbers
  split = drop-cons numbers i number within ∙ ap (λ t. t ∷ drop (suc i) numbers) (sym is) ∙ ap (λ n. number ∷ drop n numbers) (sym (add-one i))

  module _ (none : (search libraries name number).found ≡ Nowhere) where
    passed : search_along libraries name (drop i numbers) ≡ or_hit Nowhere (search libraries name number).first (search_along libraries name (drop (i + 1) numbers))
    passed = ap (search_along libraries name) split ∙ ap (λ found. or_hit found (search libraries name number).first (search_along libraries name (drop (i + 1) numbers))) none

    pub along-found : (goal : Looked) → (search_along libraries name (drop i numbers)).found ≡ goal → (search_along libraries name (drop (i + 1) numbers)).found ≡ goal
    along-found goal had = sym (ap (λ hit. hit.found) passed) ∙ had

    pub along-first : (first next goal : Option Refusal) → next ≡ nearer first (search libraries name number).first → nearer first (search_along libraries name (drop i numbers)).first ≡ goal → nearer next (search_along libraries name (drop (i + 1) numbers)).first ≡ goal
    along-first first next goal noted had =
        ap (λ f. nearer f (search_along libraries name (drop (i + 1) numbers)).first) noted
        ∙ nearer-assoc first (search libraries name number).first (search_along libraries name (drop (i + 1) numbers)).first
        ∙ ap (λ hit. nearer first hit.first) (sym passed) ∙ had
