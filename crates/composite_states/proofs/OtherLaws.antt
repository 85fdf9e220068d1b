-- The other variants of a state below.
use Rattle.std.proofs.Common.{ℕ, ◌+◌, ◌≡◌, not, List, [], ◌∷◌, ◌++◌, filter, map, sym, ap, ◌∙◌, add-one}
use Rattle.std.proofs.lemmas.List.{map-append}
use Rattle.std.proofs.lemmas.List.Elements.{filter-append}
use Rattle.plain_values.specs.Numbered.{numbers_below}
use Rattle.error_libraries.specs.Search.{is_number_in}
use Rattle.error_conditions.specs.declared.cause.Cause.{Cause}
use Rattle.composite_states.specs.Below.{others_in}

-- one number more
pub others-more : (f : ℕ → Cause) (held : List ℕ) (number : ℕ) (before after : List Cause) → before ≡ map f (others_in held (numbers_below number))
    → after ≡ before ++ map f (others_in held (number ∷ [])) → after ≡ map f (others_in held (numbers_below (number + 1)))
others-more f held number before after had one =
    one ∙ ap (λ front. front ++ map f (others_in held (number ∷ []))) had
    ∙ sym (ap (λ count. map f (others_in held (numbers_below count))) (add-one number)
    ∙ ap (map f) (filter-append (λ n. not (is_number_in held n)) (numbers_below number) (number ∷ []))
    ∙ map-append f (others_in held (numbers_below number)) (others_in held (number ∷ [])))
