-- A gate that was tested is well made.
use Rattle.std.proofs.Common.{ℕ, ◌≡◌, ◌<◌, ◌^◌, true, List, None, length, ap, ◌∙◌, subst}
use Rattle.std.specs.List.{AllByRecursion}
use Rattle.fault_system.specs.Systems.{System}
use Rattle.round_gates.specs.declared.tree.Gate.{Gate}
use Rattle.round_gates.specs.declared.tree.Input.{Input}
use Rattle.round_gates.specs.inner.Targets.{IsWellMadeGate, IsWithin, MayHave}
use Rattle.round_gates.specs.declared.tree.Tree.{Tree}
use Rattle.merged_gates.specs.inner.Tests.{IsTested, rises_from}
use Rattle.merged_gates.proofs.InputLaws.{rise-all, rise-once}

pub made-gate : (system : System) (gates : ℕ) (gate : Gate) (ins : List Input) (events count : ℕ) → gate.fact < length system.facts → gate.stage < 2 ^ 32 → gate.place < 2 ^ 32 → ins ≡ gate.inputs → length ins < 2 ^ 32
    → events ≡ length system.events → AllByRecursion (IsWithin events gates) ins → MayHave gate.kind count → count ≡ length ins → rises_from None ins ≡ true → IsWellMadeGate system gates gate
made-gate system gates gate ins events count fact stage place is few events_are within may count_is rises = record {
  fact_in = fact;
  short_stage = stage;
  short_place = place;
  inputs_in = subst (λ (xs : List Input). AllByRecursion (IsWithin (length system.events) gates) xs) is (subst (λ (e : ℕ). AllByRecursion (IsWithin e gates) ins) events_are within);
  inputs_once = rise-once gate.inputs (rise-all gate.inputs (subst (λ (xs : List Input). rises_from None xs ≡ true) is rises));
  few_inputs = subst (λ (xs : List Input). length xs < 2 ^ 32) is few;
  count = subst (λ (n : ℕ). MayHave gate.kind n) (count_is ∙ ap length is) may;
}

-- the same of equal lists
pub tested-moved : (system : System) (before written gates : List Gate) (top : ℕ) (from : List ℕ) (tree : Tree) → before ≡ written → IsTested system before gates top from tree → IsTested system written gates top from tree
tested-moved system before written gates top from tree same tested = subst (λ (gs : List Gate). IsTested system gs gates top from tree) same tested
