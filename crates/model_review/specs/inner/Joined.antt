-- The system of a model in which all that covers a fact is joined, and when a review tells nothing as hidden.
use Rattle.std.specs.Prelude.{ℕ, ◌≡◌, Bool, true, false, ◌&&◌, nat_eq, codes, List, [], ◌∷◌, ◌++◌, map, flat_map}
use Rattle.std.specs.List.{list_any}
use Rattle.model_facts.specs.Facts.{outward_of}
use Rattle.model_facts.specs.Names.{fact_name}
use Rattle.model_facts.specs.declared.keys.FactKey.{FactKey}
use Rattle.model_facts.specs.declared.keys.FactKind.{FactKind}
use Rattle.model_facts.specs.declared.keys.FactKind.TheVariants.{Enters, Exits, State}
use Rattle.fault_system.specs.Systems.{System}
use Rattle.fault_system.specs.declared.formula.FactInfo.{FactInfo}
use Rattle.fault_system.specs.declared.formula.Formula.{Formula}
use Rattle.fault_system.specs.declared.formula.Formula.TheVariants.{Or}
use Rattle.fact_formulas.specs.Facts.{enter_formula, linked_formula, state_formula}
use Rattle.fact_formulas.specs.Flat.{event_info}
use Rattle.fact_formulas.specs.Formulas.{all_flow_formulas, emission_formulas, emissions_at, flows_at}
use Rattle.fact_formulas.specs.Numbered.{Numbered, Site, site_of}
use Rattle.model_review.specs.Findings.{hidden_flows, hidden_link, of_components}
use Rattle.model_review.specs.Seen.{Seen}

-- ---- all that covers a fact

-- When a type exits at a point, by all that covers it there: the outgoing conditions, the flows and the links. None of them hides
-- another one.
abbrev pub joined_exit : Site → ℕ → ℕ → Formula
joined_exit site point type =
    Or (emission_formulas site type (emissions_at point site.model.behavior.emissions)
    ++ (all_flow_formulas site type (flows_at point site.model.flows)
    ++ linked_formula site.numbered type (outward_of site.owner point) ∷ []))

-- when a fact of a component holds, by all that covers it
abbrev pub joined_formula : Site → FactKind → Formula
joined_formula site (State state) = state_formula site state
joined_formula site (Enters point type) = enter_formula site point type
joined_formula site (Exits point type) = joined_exit site point type

-- when a fact holds, by all that covers it
abbrev pub joined_meaning : Numbered → FactKey → Formula
joined_meaning numbered fact = joined_formula (site_of numbered fact.owner) fact.kind

-- a fact with its name and all that makes it hold
abbrev pub joined_info : Numbered → FactKey → FactInfo
joined_info numbered fact = record { name = fact_name numbered.assembly fact; owner = fact.owner; formula = joined_meaning numbered fact }

-- The system of a model in which all that covers a fact is joined.
abbrev pub joined_by : Numbered → System
joined_by numbered = record { facts = map (joined_info numbered) numbered.facts; events = map (event_info numbered.assembly) numbered.events }

-- ---- nothing is hidden

-- There is no source, no path and no link to tell as hidden.
pub record HasNoHidden (seen : Seen) : Type 0 where
  pub sources : of_components seen (hidden_flows false seen) ≡ []
  pub paths : of_components seen (hidden_flows true seen) ≡ []
  pub links : flat_map (hidden_link seen) seen.numbered.assembly.links ≡ []

-- ---- nothing is hidden by the lines

-- whether a text begins with a word
abbrev pub begins_with : List ℕ → List ℕ → Bool
begins_with [] text = true
begins_with (byte ∷ word) [] = false
begins_with (byte ∷ word) (first ∷ text) = nat_eq byte first && begins_with word text

-- no line begins with a word
abbrev pub HasNoLine : List ℕ → List (List ℕ) → Type 0
HasNoLine word lines = list_any (begins_with word) lines ≡ false

-- No line of a review tells a source, a path or a link as hidden.
pub record HasNoHiddenLine (lines : List (List ℕ)) : Type 0 where
  pub sources : HasNoLine (codes "hidden-source ") lines
  pub paths : HasNoLine (codes "hidden-path ") lines
  pub links : HasNoLine (codes "hidden-link ") lines
