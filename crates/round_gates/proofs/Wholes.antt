-- What the tree of a target takes from its slice, its blocks and its places.
use Rattle.std.proofs.Common.{ℕ, zero, suc, ◌+◌, ◌*◌, ◌≡◌, ◌<◌, ◌≤◌, ◌↔◌, Bool, true, false, cond, ◌==◌, List, [], ◌∷◌, length, map, get_or, All, Contains, Result, Ok, Err, IfOk, Some, ap, ◌∙◌, sym, subst, refl, arith}
use Rattle.std.proofs.lemmas.Bool.{false≢true, eq-eqb}
use Rattle.std.proofs.lemmas.List.{get_or_default}
use Rattle.std.proofs.lemmas.List.Sums.{sum_by-cons}
use Rattle.fault_system.specs.Truth.{NumberSet, member}
use Rattle.fault_system.specs.Systems.{System, Holds, holds_of}
use Rattle.fault_system.proofs.HoldsLaws.{holds_of-exact}
use Rattle.backward_slice.specs.Slices.{IsSlice, DependsOn}
use Rattle.backward_slice.specs.declared.parts.Slice.{Slice}
use Rattle.dependency_blocks.specs.Blocks.{BlockNumbers, IsBlocks, number_of, size_of}
use Rattle.round_gates.specs.declared.node.Node.TheVariants as nodes
use Rattle.round_gates.specs.declared.tree.Gate.{Gate}
use Rattle.round_gates.specs.Stages.{last_node}
use Rattle.round_gates.specs.Staged.{fact_places, stage_places, all_places, most_places}
use Rattle.round_gates.specs.Trees.{event_tree}
use Rattle.round_gates.specs.inner.Trees.{TreeHolds, IsClosedTree, gate_true}
use Rattle.round_gates.specs.inner.Truths.{node_true}
use Rattle.round_gates.specs.inner.Unrolled.{IsSmall}
use Rattle.round_gates.specs.Walks.{places, total}
use Rattle.round_gates.proofs.StageTruth.{gate_values, last-right}
use Rattle.round_gates.proofs.Basics.{or_false}

-- what follows of an answer
pub if_ok : {X E : Type 0} (P Q : X → Type 0) → ((x : X) → P x → Q x) → (r : Result X E) → IfOk r P → IfOk r Q
if_ok P Q f (Ok x) p = f x p
if_ok P Q f (Err e) p = tt

-- the target of a slice is in a block
pub target-inside : (system : System) (target : ℕ) (slice : Slice) (numbers : BlockNumbers) → IsSlice system target slice → IsBlocks system slice.facts numbers → Contains slice.facts target × (number_of numbers target < 4294967295)
target-inside system target slice numbers is blocks =
    let own : DependsOn system target target = λ set causes has. has in
    let there = (is.facts target).1 own in
    (there, (blocks.inside target).0 there)

pub total-at : (f : ℕ → ℕ) (xs : List ℕ) (k d : ℕ) → k < length xs → f (get_or xs k d) ≤ total (map f xs)
total-at f [] k d fits = absurd (omega arith)
total-at f (x ∷ xs) zero d fits = omega arith
total-at f (x ∷ xs) (suc k) d fits = let rest = total-at f xs k d (omega arith) in omega arith

times-more : (s n : ℕ) → 0 < s → n ≤ s * n
times-more zero n h = absurd (omega arith)
times-more (suc s) n h = let e : suc s * n ≡ s * n + n = omega arith in omega arith

-- a fact that is in a block makes its size
pub size-positive : (numbers : BlockNumbers) (fact block : ℕ) → number_of numbers fact ≡ block → block < 4294967295 → 0 < size_of numbers block
size-positive [] fact block e h = absurd (omega arith)
size-positive (x ∷ numbers) zero block e h =
    subst (λ (n : ℕ). 0 < n) (sym (sum_by-cons (λ (n : ℕ). cond (n == block) 1 0) x numbers)) (one_more (x == block) (size_of numbers block) (eq-eqb x block e))
  where
    one_more : (b : Bool) (n : ℕ) → b ≡ true → 0 < cond b 1 0 + n
    one_more true n t = omega arith
    one_more false n t = absurd (false≢true t)
size-positive (x ∷ numbers) (suc fact) block e h =
    let rest : 0 < size_of numbers block = size-positive numbers fact block e h in
    let sum : size_of (x ∷ numbers) block ≡ cond (x == block) 1 0 + size_of numbers block = sum_by-cons (λ (n : ℕ). cond (n == block) 1 0) x numbers in
    omega arith

-- where all stages have few places, each formula has
pub few-small : (system : System) (facts : List ℕ) (numbers : BlockNumbers) → ((n : ℕ) → Contains facts n → number_of numbers n < 4294967295) → all_places system numbers facts ≤ most_places → All (IsSmall system) facts
few-small system facts numbers inside few k d fits info at =
    let fact : ℕ = get_or facts k d in
    let one = total-at (stage_places system numbers) facts k d fits in
    let size = size-positive numbers fact (number_of numbers fact) refl (inside fact (k, fits, same k)) in
    let many = times-more (size_of numbers (number_of numbers fact)) (places info.formula) size in
    let is : stage_places system numbers fact ≡ size_of numbers (number_of numbers fact) * places info.formula = ap (λ found. size_of numbers (number_of numbers fact) * fact_places found) at in
    omega arith
  where
    same : (j : ℕ) → get_or facts k (get_or facts k d) ≡ get_or facts k d
    same j = get_or_default facts k (get_or facts k d) d fits

-- the tree of an event is true exactly where the event is
pub event-holds : (numbers : BlockNumbers) (target event : ℕ) (es : NumberSet) → TreeHolds (event_tree numbers target event) es ↔ (es event ≡ true)
event-holds numbers target event es =
    ((λ holds. holds (λ _. es event) closed), (λ e set is. is 0 _ refl (sym (or_false (es event)) ∙ e)))
  where
    closed : IsClosedTree (event_tree numbers target event).gates es (λ _. es event)
    closed zero gate at e =
        let same = some_inner _ gate at in
        or_false (es event) ∙ ap (gate_true es (λ _. es event)) same ∙ e
      where
        some_inner : (x y : Gate) → Some x ≡ Some y → x ≡ y
        some_inner x y h = cc
    closed (suc n) gate at e = cc

-- the tree of a target whose last node is an event
pub event-tree-holds : (system : System) (facts : List ℕ) (numbers : BlockNumbers) (blocks : IsBlocks system facts numbers) (target event : ℕ) → number_of numbers target < 4294967295 → last_node system numbers target ≡ nodes.Basic event → (es : NumberSet)
    → TreeHolds (event_tree numbers target event) es ↔ Holds system es target
event-tree-holds system facts numbers blocks target event inside last es =
    let value : es event ≡ member (holds_of system es) target = ap (node_true es (gate_values system facts numbers blocks es)) (sym last) ∙ last-right system facts numbers blocks es target inside in
    let tree = event-holds numbers target event es in
    ((λ holds. (holds_of-exact system es target).0 (sym value ∙ tree.0 holds)), (λ holds. tree.1 (value ∙ (holds_of-exact system es target).1 holds)))
