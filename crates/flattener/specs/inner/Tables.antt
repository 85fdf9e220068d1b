-- What the tables know by which formulas are made without a search.
use Rattle.std.specs.Prelude.{◌≡◌, ℕ, ◌+◌, Bool, ◌&&◌, cond, nat_eq, nat_lt, List, [], map, sum, unwrap_or, Option}
use Rattle.std.specs.Bool.{beq}
use denote.Ref.{Bor}
use Rattle.error_conditions.specs.declared.cause.Cause.{Cause}
use Rattle.error_flows.specs.declared.meaning.FlowMeaning.{FlowMeaning}
use Rattle.error_behavior.specs.declared.steps.Emission.{Emission}
use Rattle.error_behavior.specs.declared.steps.Step.{Step}
use Rattle.composite_states.specs.declared.meaning.ClauseMeaning.{ClauseMeaning}
use Rattle.propagation_links.specs.declared.link.Link.{Link}
use Rattle.propagation_links.specs.declared.link.PointAt.{PointAt}
use Rattle.fact_formulas.specs.Facts.{linked_from}
use Rattle.fault_system.specs.declared.formula.Formula.{Formula}
use Rattle.fact_formulas.specs.Flat.{most_places, places}
use Rattle.fact_formulas.specs.Formulas.{FlowAt, conditions_to, emissions_at, flows_at, steps_to}

-- ---- rows by key

-- the row of a key, which is empty where the key has none
abbrev pub row_at : {Row : Type 0} → Option (List Row) → List Row
row_at row = unwrap_or row []

-- the values of a row of references
abbrev pub values : {Row : Type 0} → Option (List (Bor Row)) → List Row
values row = map (λ one. one.now) (row_at row)

-- the flow of an entry
abbrev pub flow_seen : ℕ × Bor FlowMeaning → FlowAt
flow_seen entry = record { number = entry.0; flow = entry.1.now }

-- the rows are the transitions to each state
abbrev pub AreSteps : List Step → (ℕ → Option (List (Bor Step))) → Type 0
AreSteps steps rows = (state : ℕ) → values (rows state) ≡ steps_to state steps

-- the rows are the conditions of the clauses to each state
abbrev pub AreConditions : List ClauseMeaning → (ℕ → Option (List (Bor Cause))) → Type 0
AreConditions clauses rows = (state : ℕ) → values (rows state) ≡ conditions_to state clauses

-- the rows are the outgoing conditions of each point
abbrev pub AreEmissions : List Emission → (ℕ → Option (List (Bor Emission))) → Type 0
AreEmissions emissions rows = (point : ℕ) → values (rows point) ≡ emissions_at point emissions

-- the rows are the flows that come out of each point
abbrev pub AreFlows : List FlowMeaning → (ℕ → Option (List (ℕ × Bor FlowMeaning))) → Type 0
AreFlows flows rows = (point : ℕ) → map flow_seen (row_at (rows point)) ≡ flows_at point flows

-- the key of a side
abbrev pub SideKey : Type 0
SideKey = ℕ × ℕ × Bool

-- whether two such keys are the same
abbrev pub same_key : SideKey → SideKey → Bool
same_key a b = (nat_eq a.0 b.0 && nat_eq a.1 b.1) && beq a.2 b.2

-- the side of a key
abbrev pub side_of_key : SideKey → PointAt
side_of_key key = record { component = key.0; point = key.1; outward = key.2 }

-- the rows are the sides from which links lead into each side
abbrev pub AreLinks : List Link → (SideKey → Option (List PointAt)) → Type 0
AreLinks links rows = (key : SideKey) → row_at (rows key) ≡ linked_from (side_of_key key) links

-- ---- counts

-- a number of places, of which one over the limit stands for all that are greater
abbrev pub capped : ℕ → ℕ
capped count = cond (nat_lt most_places count) (most_places + 1) count

-- how many places formulas have together
abbrev pub places_of : List Formula → ℕ
places_of formulas = sum (map places formulas)
