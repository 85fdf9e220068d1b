-- Small trees, merged or not, worked.
use Rattle.std.proofs.Common.{ℕ, zero, suc, ◌≡◌, ◌≢◌, true, false, List, [], ◌∷◌, None, Some, slice_get, inr, subst, sym, refl, arith}
use Rattle.std.proofs.lemmas.Bool.{false≢true}
use Rattle.round_gates.specs.declared.node.GateKind.{GateKind}
use Rattle.round_gates.specs.declared.node.GateKind.TheVariants.{And, Or, AtLeast}
use Rattle.round_gates.specs.declared.tree.Gate.{Gate}
use Rattle.round_gates.specs.declared.tree.Input.{Input}
use Rattle.round_gates.specs.declared.tree.Input.TheVariants as inputs
use Rattle.round_gates.specs.declared.tree.Tree.{Tree}
use Rattle.round_gates.specs.Trees.{has_gate}
use Rattle.round_gates.proofs.Basics.{some_inner}
use Rattle.merged_gates.specs.Merged.{IsSettled, MayHaveOne, joins}
use Rattle.merged_gates.specs.inner.Solutions.{once_from}
use Rattle.merged_gates.specs.inner.Tests.{rises_from}

abbrev gate : ℕ → GateKind → List Input → Gate
gate place kind ins = record { fact = 0; stage = 1; place = place; kind = kind; inputs = ins }

abbrev tree : List Gate → Tree
tree gates = record { top = 0; gates = gates; events = [] }

-- events come before gates, and an input that comes twice comes once
in_order : rises_from None (inputs.Event 0 ∷ inputs.Event 2 ∷ inputs.Gate 1 ∷ []) ≡ true
in_order = refl

twice : rises_from None (inputs.Event 2 ∷ inputs.Event 2 ∷ []) ≡ false
twice = refl

once : once_from None (inputs.Event 0 ∷ inputs.Event 0 ∷ inputs.Gate 0 ∷ inputs.Gate 1 ∷ inputs.Gate 1 ∷ []) ≡ inputs.Event 0 ∷ inputs.Gate 0 ∷ inputs.Gate 1 ∷ []
once = refl

-- gates that count are not joined
counting_apart : joins (AtLeast 2) (AtLeast 2) ≡ false
counting_apart = refl

mixed_apart : joins And Or ≡ false
mixed_apart = refl

-- two gates of one kind and the same inputs
abbrev alike : Tree
alike =
    tree
    (gate 0 And (inputs.Gate 1 ∷ inputs.Gate 2 ∷ []) ∷ gate 3 Or (inputs.Event 0 ∷ inputs.Event 1 ∷ []) ∷ gate 6 Or (inputs.Event 0 ∷ inputs.Event 1 ∷ []) ∷ [])

alike_left : IsSettled alike → ⊥
alike_left s =
    let same : 1 ≡ 2 = s.differ 1 2 (gate 3 Or (inputs.Event 0 ∷ inputs.Event 1 ∷ [])) (gate 6 Or (inputs.Event 0 ∷ inputs.Event 1 ∷ [])) refl refl refl refl in
    absurd (omega (arith, same))

-- an `or` with one parent, an `or`
abbrev nested : Tree
nested = tree (gate 0 Or (inputs.Event 0 ∷ inputs.Gate 1 ∷ []) ∷ gate 2 Or (inputs.Event 1 ∷ inputs.Event 2 ∷ []) ∷ [])

no_other : (other : ℕ) → other ≢ 0 → (found : Gate) → slice_get nested.gates other ≡ Some found → has_gate found.inputs 1 ≡ true → ⊥
no_other zero differs found at has = differs refl
no_other (suc zero) differs found at has =
    false≢true (subst (λ (g : Gate). has_gate g.inputs 1 ≡ true) (sym (some_inner (gate 2 Or (inputs.Event 1 ∷ inputs.Event 2 ∷ [])) found at)) has)
no_other (suc (suc n)) differs found at has = cc

nested_left : IsSettled nested → ⊥
nested_left s =
    let p = s.joined 0 1 (gate 0 Or (inputs.Event 0 ∷ inputs.Gate 1 ∷ [])) (gate 2 Or (inputs.Event 1 ∷ inputs.Event 2 ∷ [])) refl refl refl refl in
    no_other p.other p.differs p.has.gate p.has.at p.has.has

-- two of an event and of a gate that stands for it once more: the gate may stay
abbrev doubled : Tree
doubled = tree (gate 0 (AtLeast 2) (inputs.Event 0 ∷ inputs.Event 1 ∷ inputs.Gate 1 ∷ []) ∷ gate 3 Or (inputs.Event 0 ∷ []) ∷ [])

doubled_stays : MayHaveOne doubled 1 (inputs.Event 0)
doubled_stays =
    inr (record { place = 0; gate = gate 0 (AtLeast 2) (inputs.Event 0 ∷ inputs.Event 1 ∷ inputs.Gate 1 ∷ []); at = refl; counting = refl; has = refl; beside = refl })
