-- A tree that was tested is well made, and nothing is left to merge.
use Rattle.std.proofs.Common.{ℕ, zero, suc, ◌+◌, ◌≡◌, ◌<◌, ◌==◌, true, List, [], ◌∷◌, ◌++◌, Some, length, map, slice_get, slice_index_or, nat_lt, ⊎_elim, ap, ◌∙◌, sym, subst, refl, arith}
use Rattle.std.proofs.lemmas.Bool.{false≢true, eqb-true, ltb-true, lt-ltb, or_cases, cases_lt}
use Rattle.std.proofs.lemmas.Option.{slice_get_within}
use Rattle.std.specs.List.{AllByRecursion, flat_map}
use lib.ListN.{length-map}
use Rattle.fault_system.specs.Systems.{System, NamesDiffer}
use Rattle.fault_system.specs.Truth.{NumberSet}
use Rattle.round_gates.specs.declared.node.GateKind.{GateKind}
use Rattle.round_gates.specs.declared.tree.Gate.{Gate}
use Rattle.round_gates.specs.declared.tree.Input.{Input}
use Rattle.round_gates.specs.declared.tree.Input.TheVariants as inputs
use Rattle.round_gates.specs.declared.tree.Tree.{Tree}
use Rattle.round_gates.specs.Trees.{LeadsTo, NamesRise, has_gate, key_cmp, key_of}
use Rattle.round_gates.specs.inner.Targets.{IsWellMade, IsWellMadeGate}
use Rattle.round_gates.proofs.Basics.{some_inner}
use Rattle.merged_gates.specs.Merged.{HasOtherParent, IsSettled, joins}
use Rattle.merged_gates.specs.inner.Tests.{AllLater, IsMerging, RisesAt, StaysApart, input_text, kind_text, number_at, shape_text}
use Rattle.merged_gates.proofs.Solutions.{gate-within, later-at}

all-from : {X : Type 0} (P : X → Type 0) (xs : List X) → ((n : ℕ) (x : X) → slice_get xs n ≡ Some x → P x) → AllByRecursion P xs
all-from P [] each = tt
all-from P (x ∷ xs) each = (each 0 x refl, all-from P xs (λ n y at. each (suc n) y at))

-- what is said of the gate at a position
pub item-at : {Y : Type 0} (f : Gate → Y) (gates : List Gate) (n : ℕ) (gate : Gate) (d : Y) → slice_get gates n ≡ Some gate → slice_index_or (map f gates) n d ≡ f gate
item-at f [] n gate d at = cc
item-at f (g ∷ gates) zero gate d at = ap f (some_inner g gate at)
item-at f (g ∷ gates) (suc n) gate d at = item-at f gates n gate d at

-- an input that is a gate stays apart
apart-at : (gates : List Gate) (n : ℕ) (kind : GateKind) (ins : List Input) → AllByRecursion (StaysApart gates n kind) ins → (m : ℕ) → has_gate ins m ≡ true → (inner : Gate) → slice_get gates m ≡ Some inner → joins kind inner.kind ≡ true → HasOtherParent gates n m
apart-at gates n kind [] all m e inner at j = absurd (false≢true e)
apart-at gates n kind (inputs.Event k ∷ ins) all m e inner at j = apart-at gates n kind ins all.1 m e inner at j
apart-at gates n kind (inputs.Gate k ∷ ins) all m e inner at j =
    ⊎_elim (λ here. subst (λ (x : ℕ). StaysApart gates n kind (inputs.Gate x)) (eqb-true k m here) all.0 inner at j) (λ there. apart-at gates n kind ins all.1 m there inner at j) (or_cases (k == m) (has_gate ins m) e)

-- two gates of one shape at different positions are none
apart-shapes : (gates : List Gate) → NamesDiffer (map shape_text gates) → (n m : ℕ) (a b : Gate) → n < m → slice_get gates n ≡ Some a → slice_get gates m ≡ Some b → shape_text a ≡ shape_text b → ⊥
apart-shapes gates differ n m a b less at there same =
    let within : m < length (map shape_text gates) = subst (λ (k : ℕ). m < k) (sym (length-map gates shape_text)) (slice_get_within gates m b there) in
    differ n m [] less within (item-at shape_text gates n a [] at ∙ same ∙ sym (item-at shape_text gates m b [] there))

same-place : (gates : List Gate) → NamesDiffer (map shape_text gates) → (n m : ℕ) (a b : Gate) → slice_get gates n ≡ Some a → slice_get gates m ≡ Some b → a.kind ≡ b.kind → a.inputs ≡ b.inputs → n ≡ m
same-place gates differ n m a b at there kind ins =
    let same : shape_text a ≡ shape_text b = ap (λ k. kind_text k ++ flat_map input_text a.inputs) kind ∙ ap (λ (is : List Input). kind_text b.kind ++ flat_map input_text is) ins in
    ⊎_elim (λ less. absurd (apart-shapes gates differ n m a b less at there same))
    (λ not_less. ⊎_elim (λ more. absurd (apart-shapes gates differ m n b a more there at (sym same))) (λ not_more. omega arith) (cases_lt m n))
    (cases_lt n m)

-- gates that rise from one to the next have names that rise
names-rise : (gates : List Gate) → ((n : ℕ) → n < length gates → RisesAt gates n) → NamesRise (map key_of gates)
names-rise gates rise n d within =
    let long : length (map key_of gates) ≡ length gates = length-map gates key_of in
    let first = gate-within gates n (omega arith) in
    let second = gate-within gates (n + 1) (omega arith) in
    ap (λ k. key_cmp k (slice_index_or (map key_of gates) (n + 1) d)) (item-at key_of gates n first.0 d first.1)
    ∙ ap (key_cmp (key_of first.0)) (item-at key_of gates (n + 1) second.0 d second.1)
    ∙ rise n (omega arith) first.0 second.0 first.1 second.1

-- no gate leads back to itself where inputs have greater ranks
no-cycle : (gates : List Gate) (ranks : List ℕ) → AllLater gates ranks → (n m : ℕ) (gate : Gate) → slice_get gates n ≡ Some gate → has_gate gate.inputs m ≡ true → LeadsTo gates m n → ⊥
no-cycle gates ranks later n m gate at e leads =
    let above : NumberSet = λ k. nat_lt (number_at ranks n) (number_at ranks k) in
    let here = (later-at ranks (number_at ranks n) gate.inputs (later.later n gate at) m e).0 in
    let back : nat_lt (number_at ranks n) (number_at ranks n) ≡ true = leads above
    (λ i j other has there input.
    let x = ltb-true (number_at ranks n) (number_at ranks i) has in
    let y = (later-at ranks (number_at ranks i) other.inputs (later.later i other there) j input).0 in
    lt-ltb (number_at ranks n) (number_at ranks j) (omega arith))
    (lt-ltb (number_at ranks n) (number_at ranks m) here) in
    let less = ltb-true (number_at ranks n) (number_at ranks n) back in absurd (omega arith)

pub well-made : (system : System) (written gates : List Gate) (top : ℕ) (tree : Tree) → IsMerging system written gates top tree → IsWellMade system tree
well-made system written gates top tree m = record {
  top_in = m.tested.top_in;
  gates = all-from (IsWellMadeGate system (length tree.gates)) tree.gates (λ n gate at. (m.tested.right n gate at).made);
  rise = names-rise tree.gates m.tested.rise;
  acyclic = no-cycle tree.gates m.tested.ranks m.tested.later;
  events = m.events;
}

pub settled : (system : System) (written gates : List Gate) (top : ℕ) (tree : Tree) → IsMerging system written gates top tree → IsSettled tree
settled system written gates top tree m = record {
  rise = λ n gate at. (m.tested.right n gate at).rise;
  differ = same-place tree.gates m.tested.differ;
  one = λ n gate input at is. (m.tested.right n gate at).one input is;
  joined = λ n k gate inner at there e j. apart-at tree.gates n gate.kind gate.inputs (m.tested.right n gate at).apart k e inner there j;
}
