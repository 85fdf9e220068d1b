-- The uses of a step are the places of what its fact uses; and one step more.
use Rattle.std.proofs.Common.{ℕ, ◌+◌, ◌≡◌, ◌<◌, List, [], ◌∷◌, ◌++◌, length, map, take, slice_index_or, All, ap, ◌∙◌, sym, subst}
use Rattle.std.proofs.lemmas.List.{map-append, take_more}
use Rattle.std.proofs.lemmas.List.Elements.{All-push}
use Rattle.fault_system.specs.Truth.{NumberSet, Has, set_of}
use Rattle.fault_system.specs.Systems.{System}
use Rattle.derivations.specs.declared.derivation.Firing.{Firing}
use Rattle.derivations.specs.inner.Ordered.{AreMade, IsMade, place_at}
use Rattle.derivations.proofs.NumbersIn.{set_of-map_from, set_of-mapped}

module _ (places used slice numbers list : List ℕ) (set : NumberSet) (sliced : slice ≡ used) (is : (n : ℕ) → set_of used n ≡ set n) (mapped : numbers ≡ map (place_at places) slice) (same : (n : ℕ) → set_of list n ≡ set_of numbers n) where
  in-set : (n : ℕ) → set_of slice n ≡ set n
  in-set n = ap (λ (ns : List ℕ). set_of ns n) sliced ∙ is n

  pub use-each : (n : ℕ) → Has (set_of list) n → (other : ℕ) × Has set other × (place_at places other ≡ n)
  use-each n h =
      let it = set_of-map_from (place_at places) slice n (sym (ap (λ (ns : List ℕ). set_of ns n) mapped) ∙ sym (same n) ∙ h) in
      (it.0, sym (in-set it.0) ∙ it.1, it.2)

  pub use-all : (other : ℕ) → Has set other → Has (set_of list) (place_at places other)
  use-all other h = same (place_at places other) ∙ ap (λ (ns : List ℕ). set_of ns (place_at places other)) mapped ∙ set_of-mapped (place_at places) slice other (in-set other ∙ h)

-- one step more
pub made-next : (system : System) (events : NumberSet) (rounds places order : List ℕ) (steps new : List Firing) (step : Firing) (i fact d : ℕ) → i < length order → fact ≡ slice_index_or order i d → step.fact ≡ fact → IsMade system events rounds places step → new ≡ steps ++ step ∷ [] → AreMade system events rounds places (take i order) steps → AreMade system events rounds places (take (i + 1) order) new
made-next system events rounds places order steps new step i fact d fits item of_fact made is so_far =
    record {
      facts = ap (map (λ (s : Firing). s.fact)) is ∙ map-append (λ (s : Firing). s.fact) steps (step ∷ [])
          ∙ ap (λ (ns : List ℕ). ns ++ step.fact ∷ []) so_far.facts ∙ ap (λ (n : ℕ). take i order ++ n ∷ []) (of_fact ∙ item) ∙ sym (take_more order i d fits);
      made = subst (All (IsMade system events rounds places)) (sym is) (All-push (IsMade system events rounds places) steps step so_far.made made);
    }
