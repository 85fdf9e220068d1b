-- A gate of a merged tree is true where its gate of the written tree is.
use Rattle.std.proofs.Common.{ℕ, ◌≡◌, ◌↔◌, true, List, [], ◌∷◌, Some, map, slice_get, ap, ◌∙◌, sym, refl}
use Rattle.fault_system.specs.Systems.{System}
use Rattle.fault_system.specs.Truth.{NumberSet}
use Rattle.round_gates.specs.Truths.{kind_true}
use Rattle.round_gates.specs.declared.tree.Gate.{Gate}
use Rattle.round_gates.specs.declared.tree.Input.{Input}
use Rattle.round_gates.specs.declared.tree.Input.TheVariants as inputs
use Rattle.round_gates.specs.declared.tree.Tree.{Tree}
use Rattle.round_gates.specs.inner.Trees.{TreeHolds, input_true}
use Rattle.merged_gates.specs.inner.Merged.{AllStay, GateHolds}
use Rattle.merged_gates.specs.inner.Solutions.{IsSolution, KeepsTop}
use Rattle.merged_gates.specs.inner.Tests.{IsRanked, IsCopy, IsMerging, moved, number_at}
use Rattle.merged_gates.proofs.Solutions.{gate-within, holds-as, some-solution}

-- inputs are as true as under the numbers from before
moved-true : (events set : NumberSet) (from : List ℕ) (ins : List Input) → map (input_true events (λ i. set (number_at from i))) ins ≡ map (input_true events set) (map (moved from) ins)
moved-true events set from [] = refl
moved-true events set from (inputs.Event n ∷ ins) = ap (λ bs. events n ∷ bs) (moved-true events set from ins)
moved-true events set from (inputs.Gate n ∷ ins) = ap (λ bs. set (number_at from n) ∷ bs) (moved-true events set from ins)

-- a set that agrees with gates agrees with copies of them under the numbers from before
copies-agree : (events set : NumberSet) (gates copies : List Gate) (from : List ℕ) → IsSolution events set gates → ((n : ℕ) (gate : Gate) → slice_get copies n ≡ Some gate → IsCopy gates from n gate) → IsSolution events (λ i. set (number_at from i)) copies
copies-agree events set gates copies from agrees copy n gate at =
    let c = copy n gate at in
    ap (kind_true gate.kind) (moved-true events set from gate.inputs ∙ ap (map (input_true events set)) c.inputs)
    ∙ ap (λ k. kind_true k (map (input_true events set) c.old.inputs)) c.kind
    ∙ agrees (number_at from n) c.old c.at

module _ (system : System) (written : Tree) (gates : List Gate) (top : ℕ) (tree : Tree) (ranks : IsRanked written) (keeps : KeepsTop written.gates written.top gates top) (m : IsMerging system written.gates gates top tree) where
  -- a gate of the tree is true where the set has its old number
  as-before : (events set : NumberSet) → IsSolution events set written.gates → (n : ℕ) (gate : Gate) → slice_get tree.gates n ≡ Some gate → GateHolds tree.gates events n ↔ (set (number_at m.from n) ≡ true)
  as-before events set agrees n gate at =
      holds-as events (λ i. set (number_at m.from i)) tree.gates m.tested.ranks m.tested.later
      (copies-agree events set gates tree.gates m.from (keeps events set agrees).0 (λ k other there. (m.tested.right k other there).copy)) n gate at

  pub all-stay : AllStay written tree
  all-stay n gate at =
      let s = (m.tested.right n gate at).source in
      record {
        place = number_at m.from n;
        source = s.source;
        at = s.at;
        key = s.key;
        kind = s.kind;
        truth = λ events.
            let found = some-solution events written.gates ranks.ranks ranks.later in
            let after = as-before events found.0 found.1 n gate at in
            let before = holds-as events found.0 written.gates ranks.ranks ranks.later found.1 (number_at m.from n) s.source s.at in
            ((λ h. before.1 (after.0 h)), (λ h. after.1 (before.0 h)));
      }

  pub same-top : (events : NumberSet) → TreeHolds tree events ↔ TreeHolds written events
  same-top events =
      let own = gate-within written.gates written.top ranks.top_in in
      let found = some-solution events written.gates ranks.ranks ranks.later in
      let there = gate-within tree.gates tree.top m.tested.top_in in
      let after = as-before events found.0 found.1 tree.top there.0 there.1 in
      let before = holds-as events found.0 written.gates ranks.ranks ranks.later found.1 written.top own.0 own.1 in
      let same : found.0 (number_at m.from tree.top) ≡ found.0 written.top = ap found.0 m.tested.top_is ∙ (keeps events found.0 found.1).1 in
      ((λ h. before.1 (sym same ∙ after.0 h)), (λ h. after.1 (same ∙ before.0 h)))
