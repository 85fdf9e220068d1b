-- Lists to which the parts of a whole are added one after the other.
use Rattle.std.proofs.Common.{ℕ, ◌+◌, ◌≡◌, ◌<◌, ◌≤◌, List, [], ◌∷◌, ◌++◌, flat_map, length, take, get_or, None, add-one, ap, ◌∙◌, sym}
use Rattle.std.proofs.lemmas.Grind.{flat_map-append}
use Rattle.std.proofs.lemmas.List.{append-nil, append_assoc, get_or_default, take_all}
use Rattle.plain_values.specs.Numbered.{numbered_from, numbers_below}
use Rattle.package_index.proofs.Loops.{numbered-more}
use Rattle.instantiator.specs.declared.path.Component.{Component}

module _ {Part Row : Type 0} (give : ℕ → Part → List Row) (parts : List Part) (i : ℕ) (old mid : List Row) (so_far : mid ≡ old ++ numbered_from give 0 (take i parts)) where
  -- one part more
  pub numbered-step : (part : Part) → i < length parts → part ≡ get_or parts i part → (new : List Row) → new ≡ mid ++ give i part → new ≡ old ++ numbered_from give 0 (take (i + 1) parts)
  numbered-step part within is new added =
      added ∙ ap (λ front. front ++ give i part) so_far ∙ append_assoc old (numbered_from give 0 (take i parts)) (give i part)
      ∙ ap (λ rest. old ++ rest) (sym (numbered-more give parts i part within is))

  -- no part more
  pub numbered-end : length parts ≤ i → mid ≡ old ++ numbered_from give 0 parts
  numbered-end all = so_far ∙ ap (λ ps. old ++ numbered_from give 0 ps) (take_all i parts all)

-- what is told of each component by its number
module _ {Row : Type 0} (tells : ℕ → List Row) (all : List Component) (i : ℕ) (old mid : List Row) (so_far : mid ≡ old ++ numbered_from (λ (owner : ℕ) (component : Component). tells owner) 0 (take i all)) where
  -- one component more
  pub owner-step : i < length all → (new : List Row) → new ≡ mid ++ tells i → new ≡ old ++ numbered_from (λ (owner : ℕ) (component : Component). tells owner) 0 (take (i + 1) all)
  owner-step within new added =
      let none : Component = record { path = []; classifier = None } in
      let component : Component = get_or all i none in
      numbered-step (λ (owner : ℕ) (component : Component). tells owner) all i old mid so_far component within (get_or_default all i none component within) new added

  -- no component more
  pub owner-end : length all ≤ i → mid ≡ old ++ numbered_from (λ (owner : ℕ) (component : Component). tells owner) 0 all
  owner-end past = numbered-end (λ (owner : ℕ) (component : Component). tells owner) all i old mid so_far past

-- what is told of each number below a bound, a number more
pub below-step : {Row : Type 0} (give : ℕ → List Row) (n : ℕ) (old mid new : List Row) → mid ≡ old ++ flat_map give (numbers_below n) → new ≡ mid ++ give n → new ≡ old ++ flat_map give (numbers_below (n + 1))
below-step give n old mid new so_far added =
    added ∙ ap (λ front. front ++ give n) so_far ∙ append_assoc old (flat_map give (numbers_below n)) (give n)
    ∙ ap (λ rest. old ++ rest) (sym (ap (λ k. flat_map give (numbers_below k)) (add-one n) ∙ flat_map-append give (numbers_below n) (n ∷ [])
    ∙ ap (λ rest. flat_map give (numbers_below n) ++ rest) (append-nil (give n))))
