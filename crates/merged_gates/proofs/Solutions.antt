-- Where ranks order gates, a set that agrees with them is the least set that has each gate that is true.
use Rattle.std.proofs.Common.{ℕ, zero, suc, ◌-◌, ◌≡◌, ◌<◌, ◌^◌, ◌↔◌, ◌==◌, Bool, true, false, List, [], ◌∷◌, Option, Some, None, length, map, slice_get, ⊎_elim, ap, ◌∙◌, sym, subst, refl, arith}
use Rattle.std.proofs.lemmas.Bool.{false≢true, eqb-true, eq-eqb, or_cases}
use Rattle.std.specs.List.{AllByRecursion}
use Rattle.fault_system.specs.Truth.{NumberSet}
use Rattle.fault_system.proofs.Marks.{Below}
use Rattle.round_gates.specs.Truths.{kind_true}
use Rattle.round_gates.specs.declared.tree.Gate.{Gate}
use Rattle.round_gates.specs.declared.tree.Input.{Input}
use Rattle.round_gates.specs.declared.tree.Input.TheVariants as inputs
use Rattle.round_gates.specs.Trees.{has_gate}
use Rattle.round_gates.specs.inner.Trees.{IsClosedTree, gate_true, input_true}
use Rattle.round_gates.proofs.Basics.{or_left, or_right}
use Rattle.round_gates.proofs.TreeTruth.{kind-below}
use Rattle.merged_gates.specs.inner.Merged.{GateHolds}
use Rattle.merged_gates.specs.inner.Solutions.{IsSolution}
use Rattle.merged_gates.specs.inner.Tests.{AllLater, IsLater, number_at}

-- inputs are as true under sets that have the same of their gates
pub same-inputs : (events f g : NumberSet) (ins : List Input) → ((m : ℕ) → has_gate ins m ≡ true → f m ≡ g m) → map (input_true events f) ins ≡ map (input_true events g) ins
same-inputs events f g [] h = refl
same-inputs events f g (inputs.Event n ∷ ins) h = ap (λ bs. events n ∷ bs) (same-inputs events f g ins h)
same-inputs events f g (inputs.Gate n ∷ ins) h =
    ap (λ b. b ∷ map (input_true events f) ins) (h n (or_left (n == n) (has_gate ins n) (eq-eqb n n refl)))
    ∙ ap (λ bs. g n ∷ bs) (same-inputs events f g ins (λ m e. h m (or_right (n == m) (has_gate ins m) e)))

-- an input that is a gate has a greater rank
pub later-at : (ranks : List ℕ) (own : ℕ) (ins : List Input) → AllByRecursion (IsLater ranks own) ins → (m : ℕ) → has_gate ins m ≡ true → (own < number_at ranks m) × (number_at ranks m < 2 ^ 32)
later-at ranks own [] all m e = absurd (false≢true e)
later-at ranks own (inputs.Event n ∷ ins) all m e = later-at ranks own ins all.1 m e
later-at ranks own (inputs.Gate n ∷ ins) all m e =
    ⊎_elim (λ here. subst (λ (k : ℕ). (own < number_at ranks k) × (number_at ranks k < 2 ^ 32)) (eqb-true n m here) all.0) (λ there. later-at ranks own ins all.1 m there) (or_cases (n == m) (has_gate ins m) e)

-- a number that is not 0 is one of the list
pub number-within : (ranks : List ℕ) (n k : ℕ) → k < number_at ranks n → n < length ranks
number-within [] n k h = absurd (omega arith)
number-within (r ∷ ranks) zero k h = omega arith
number-within (r ∷ ranks) (suc n) k h = let rest = number-within ranks n k h in omega arith

-- a gate is at each position that is not past the end
pub gate-within : (gates : List Gate) (n : ℕ) → n < length gates → (gate : Gate) × (slice_get gates n ≡ Some gate)
gate-within [] n h = absurd (omega arith)
gate-within (gate ∷ gates) zero h = (gate, refl)
gate-within (gate ∷ gates) (suc n) h = gate-within gates n (omega arith)

-- whether the gate that was found is true
abbrev true_in : NumberSet → NumberSet → Option Gate → Bool
true_in events set None = false
true_in events set (Some gate) = gate_true events set gate

-- whether a gate is true after so many rounds
abbrev pub value : NumberSet → List Gate → ℕ → ℕ → Bool
value events gates zero n = false
value events gates (suc rounds) n = true_in events (value events gates rounds) (slice_get gates n)

module _ (events : NumberSet) (gates : List Gate) (ranks : List ℕ) (later : AllLater gates ranks) where
  step : (f g : NumberSet) (n : ℕ) (found : Option Gate) → slice_get gates n ≡ found → ((m : ℕ) → number_at ranks n < number_at ranks m → number_at ranks m < 2 ^ 32 → f m ≡ g m) → true_in events f found ≡ true_in events g found
  step f g n None at h = refl
  step f g n (Some gate) at h =
      ap (kind_true gate.kind) (same-inputs events f g gate.inputs (λ m e. let l = later-at ranks (number_at ranks n) gate.inputs (later.later n gate at) m e in h m l.0 l.1))

  stable : (rounds n : ℕ) → 2 ^ 32 - number_at ranks n < rounds → value events gates (suc rounds) n ≡ value events gates rounds n
  stable zero n h = absurd (omega arith)
  stable (suc rounds) n h =
      step (value events gates (suc rounds)) (value events gates rounds) n (slice_get gates n) refl (λ m before bound. stable rounds m (omega arith))

  -- after enough rounds the set agrees with the gates
  pub solves : (rounds : ℕ) → 2 ^ 32 < rounds → IsSolution events (value events gates rounds) gates
  solves rounds h n gate at = ap (true_in events (value events gates rounds)) (sym at) ∙ stable rounds n (omega arith)

  module _ (set closed : NumberSet) (agrees : IsSolution events set gates) (is_closed : IsClosedTree gates events closed) where
    below : (ins : List Input) → ((m : ℕ) → has_gate ins m ≡ true → set m ≡ true → closed m ≡ true) → Below (map (input_true events set) ins) (map (input_true events closed) ins)
    below [] each = tt
    below (inputs.Event n ∷ ins) each = ((λ e. e), below ins each)
    below (inputs.Gate n ∷ ins) each = (each n (or_left (n == n) (has_gate ins n) (eq-eqb n n refl)), below ins (λ m e. each m (or_right (n == m) (has_gate ins m) e)))

    least : (rounds n : ℕ) (gate : Gate) → slice_get gates n ≡ Some gate → 2 ^ 32 - number_at ranks n < rounds → set n ≡ true → closed n ≡ true
    least zero n gate at h e = absurd (omega arith)
    least (suc rounds) n gate at h e =
        is_closed n gate at
        (kind-below gate.kind _ _
        (below gate.inputs (λ m input true_m.
        let l = later-at ranks (number_at ranks n) gate.inputs (later.later n gate at) m input in
        let short = later.short in
        let within = number-within ranks m (number_at ranks n) l.0 in
        let found = gate-within gates m (omega arith) in
        least rounds m found.0 found.1 (omega (arith, l.0, l.1)) true_m))
        (agrees n gate at ∙ e))

-- a gate is true exactly where a set that agrees with the gates has it
pub holds-as : (events set : NumberSet) (gates : List Gate) (ranks : List ℕ) → AllLater gates ranks → IsSolution events set gates → (n : ℕ) (gate : Gate) → slice_get gates n ≡ Some gate → GateHolds gates events n ↔ (set n ≡ true)
holds-as events set gates ranks later agrees n gate at = (
  (λ holds. holds set (λ m other there e. sym (agrees m other there) ∙ e)),
  (λ e closed is_closed. least events gates ranks later set closed agrees is_closed (suc (2 ^ 32 - number_at ranks n)) n gate at (omega arith) e),
)

-- there is a set that agrees with gates that ranks order
pub some-solution : (events : NumberSet) (gates : List Gate) (ranks : List ℕ) → AllLater gates ranks → (set : NumberSet) × IsSolution events set gates
some-solution events gates ranks later = (value events gates (suc (2 ^ 32)), solves events gates ranks later (suc (2 ^ 32)) (omega arith))
