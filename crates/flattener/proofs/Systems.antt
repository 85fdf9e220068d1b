-- What a root is made into is a system.
use Rattle.std.proofs.Common.{◌≡◌, ◌≢◌, ◌<◌, ℕ, true, AllPairs, List, [], ◌∷◌, length, map, refl, sym, ap, ◌∙◌, subst, arith}
use Rattle.std.specs.List.{AllByRecursion}
use Rattle.std.proofs.lemmas.List.{get_or-map}
use Rattle.std.proofs.lemmas.List.Elements.{All-from_recursion}
use lib.ListN.{length-map}
use Rattle.plain_values.specs.Order.{IsClear}
use Rattle.profiles.specs.declared.profile.Profile.{Profile}
use Rattle.aadl_syntax.specs.declared.core_model.PackageUnit.{PackageUnit}
use Rattle.package_index.specs.declared.id.ClassifierId.{ClassifierId}
use Rattle.package_index.specs.Duplicates.{IsDuplicate}
use Rattle.fault_system.specs.Truth.{in_range}
use Rattle.fault_system.specs.Systems.{IsSystem, NamesDiffer}
use Rattle.fault_system.specs.declared.formula.FactInfo.{FactInfo}
use Rattle.model_facts.specs.Assembly.{Assembly, assembly_of}
use Rattle.model_facts.specs.inner.Laws.{AreNamed}
use Rattle.model_facts.specs.Names.{event_name, fact_name}
use Rattle.model_facts.specs.declared.keys.FactKey.{FactKey}
use Rattle.model_facts.proofs.RootLaws.{root-events-differ, root-facts-differ}
use Rattle.fact_formulas.specs.Flat.{event_info, fact_info, system_of}
use Rattle.fact_formulas.specs.Numbered.{Numbered, numbered_of}
use Rattle.flattener.proofs.Ranged.{meaning-within}

mapped : {A B C : Type 0} (f : A → B) (g : B → C) (xs : List A) → map g (map f xs) ≡ map (λ x. g (f x)) xs
mapped f g [] = refl
mapped f g (x ∷ xs) = ap (λ l. g (f x) ∷ l) (mapped f g xs)

module _ (numbered : Numbered) where
  abbrev Ranged : FactInfo → Type 0
  Ranged fact = in_range (length (map (fact_info numbered) numbered.facts)) (length (map (event_info numbered.assembly) numbered.events)) fact.formula ≡ true

  each-ranged : (facts : List FactKey) → AllByRecursion Ranged (map (fact_info numbered) facts)
  each-ranged [] = tt
  each-ranged (fact ∷ facts) = (counted, each-ranged facts)
    where
      counted : Ranged (fact_info numbered fact)
      counted =
          ap (λ n. in_range n (length (map (event_info numbered.assembly) numbered.events)) (fact_info numbered fact).formula) (length-map numbered.facts (fact_info numbered))
          ∙ ap (λ n. in_range (length numbered.facts) n (fact_info numbered fact).formula) (length-map numbered.events (event_info numbered.assembly))
          ∙ meaning-within numbered fact

-- names that differ as names of items
differ-mapped : {A : Type 0} (f : A → List ℕ) (xs : List A) → AllPairs (λ a b. f a ≢ f b) xs → NamesDiffer (map f xs)
differ-mapped f [] differ = λ i j d lt within same. absurd (omega (arith, within))
differ-mapped f (x ∷ xs) differ = λ i j d lt within same.
    let fits : j < length (x ∷ xs) = omega (arith, length-map (x ∷ xs) f, within) in
    differ i j x lt fits (sym (get_or-map f (x ∷ xs) i x d (omega (arith, lt, fits))) ∙ same ∙ get_or-map f (x ∷ xs) j x d fits)

pub root-system : (profile : Profile) (packages : List PackageUnit) (root : ClassifierId) → IsClear (IsDuplicate packages) → AreNamed (assembly_of profile packages root) → IsSystem (system_of (assembly_of profile packages root))
root-system profile packages root clear named =
    let assembly : Assembly = assembly_of profile packages root in
    let numbered : Numbered = numbered_of (assembly_of profile packages root) in
    record {
      ranged = All-from_recursion _ _ (each-ranged numbered numbered.facts);
      facts_named = subst NamesDiffer (sym (mapped (fact_info numbered) (λ fact. fact.name) numbered.facts)) (differ-mapped (fact_name assembly) numbered.facts (root-facts-differ profile packages root clear named));
      events_named = subst NamesDiffer (sym (mapped (event_info assembly) (λ event. event.name) numbered.events)) (differ-mapped (event_name assembly) numbered.events (root-events-differ profile packages root clear named));
    }
