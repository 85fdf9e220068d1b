-- A tree that is well made may be written.
use Rattle.std.proofs.Common.{ℕ, zero, suc, ◌+◌, ◌≡◌, ◌<◌, ◌≤◌, ◌||◌, Bool, true, false, List, [], ◌∷◌, length, filter, ◌==◌, AllPairs, inl, inr, ⊎_elim, ap, ◌∙◌, sym, subst, refl, arith}
use Rattle.std.specs.List.{AllByRecursion, list_any, range_with_len}
use Rattle.std.proofs.lemmas.Bool.{cases_order, eqb-true, false≢true}
use Rattle.std.proofs.lemmas.List.Kept.{AllPairs-cons, AllPairs-filter}
use Rattle.fault_system.specs.Systems.{System}
use Rattle.fault_system.proofs.Elements.{In, In-filter, In-filtered, contains_In}
use Rattle.round_gates.specs.declared.tree.Gate.{Gate}
use Rattle.round_gates.specs.declared.tree.Input.{Input}
use Rattle.round_gates.specs.declared.tree.Input.TheVariants as inputs
use Rattle.round_gates.specs.declared.tree.Tree.{Tree}
use Rattle.round_gates.specs.Trees.{is_event}
use Rattle.round_gates.specs.inner.Targets.{IsWellMade, IsWellMadeGate, IsWithin}
use Rattle.open_psa_writer.specs.inner.TreeMef.{HasInputEvents, IsMefGate, IsMefTree}
use Rattle.open_psa_writer.proofs.Soundness.{Differ, all-rec, all-to}
use Rattle.open_psa_writer.proofs.Truth.{or-right, or-true}

in-range : (n low count : ℕ) → low ≤ n → n < low + count → In n (range_with_len low count)
in-range n low zero l h = absurd (omega arith)
in-range n low (suc count) l h =
    ⊎_elim (λ e. inl e) (λ apart. ⊎_elim (λ less. inr (in-range n (low + 1) count (omega arith) (omega arith))) (λ more. absurd (omega arith)) apart) (cases_order low n)

range-bound : (n low count : ℕ) → In n (range_with_len low count) → n < low + count
range-bound n low zero i = absurd i
range-bound n low (suc count) i = ⊎_elim (λ (e : low ≡ n). omega arith) (λ later. let rest = range-bound n (low + 1) count later in omega arith) i

range-above : (low from count : ℕ) → low ≤ from → AllByRecursion (λ n. low ≤ n) (range_with_len from count)
range-above low from zero h = tt
range-above low from (suc count) h = (h, range-above low (from + 1) count (omega arith))

range-differs : (low count : ℕ) → AllPairs Differ (range_with_len low count)
range-differs low zero = λ i j d less fits. absurd (omega arith)
range-differs low (suc count) =
    AllPairs-cons Differ low (range_with_len (low + 1) count)
    (all-rec (Differ low) (range_with_len (low + 1) count)
    (all-to (λ n. low + 1 ≤ n) (Differ low) (λ n h e. omega (arith, h, e)) (range_with_len (low + 1) count) (range-above (low + 1) (low + 1) count (omega arith))))
    (range-differs (low + 1) count)

any-at : {X : Type 0} (p : X → Bool) (x : X) (xs : List X) → In x xs → p x ≡ true → list_any p xs ≡ true
any-at p x [] i e = absurd i
any-at p x (y ∷ xs) i e = ⊎_elim (λ (same : y ≡ x). or-true (p y) (list_any p xs) (ap p same ∙ e)) (λ later. or-right (p y) (list_any p xs) (any-at p x xs later e)) i

each-in : {X : Type 0} (P : X → Type 0) (xs : List X) → ((x : X) → In x xs → P x) → AllByRecursion P xs
each-in P [] each = tt
each-in P (x ∷ xs) each = (each x (inl refl), each-in P xs (λ y i. each y (inr i)))

both-in : {X : Type 0} (P Q : X → Type 0) (xs : List X) → AllByRecursion P xs → ((x : X) → In x xs → P x → Q x) → AllByRecursion Q xs
both-in P Q [] all each = tt
both-in P Q (x ∷ xs) all each = (each x (inl refl) all.0, both-in P Q xs all.1 (λ y i. each y (inr i)))

is-within : (event gates events : ℕ) (ins : List Input) → list_any (is_event event) ins ≡ true → AllByRecursion (IsWithin events gates) ins → event < events
is-within event gates events [] e all = absurd (false≢true e)
is-within event gates events (inputs.Event n ∷ ins) e all = by (n == event) refl e (λ f. is-within event gates events ins f all.1)
  where
    by : (b : Bool) → (n == event) ≡ b → b || list_any (is_event event) ins ≡ true → (list_any (is_event event) ins ≡ true → event < events) → event < events
    by true same f rest = subst (λ k. k < events) (eqb-true n event same) all.0
    by false same f rest = rest f
is-within event gates events (inputs.Gate n ∷ ins) e all = is-within event gates events ins e all.1

module _ (system : System) (tree : Tree) (made : IsWellMade system tree) where
  abbrev all_events : List ℕ
  all_events = range_with_len 0 (length system.events)

  abbrev is_input : ℕ → Bool
  is_input n = list_any (λ (gate : Gate). list_any (is_event n) gate.inputs) tree.gates

  within : (event : ℕ) → In event (filter is_input all_events) → event < length system.events
  within event i =
      let there = In-filter is_input event all_events i in
      let below = range-bound event 0 (length system.events) there.0 in
      omega (arith, below)

  has : (gate : Gate) → In gate tree.gates → IsWellMadeGate system (length tree.gates) gate → HasInputEvents tree gate
  has gate i is event e =
      let fits = is-within event (length tree.gates) (length system.events) gate.inputs e is.inputs_in in
      contains_In event tree.events
      (subst (In event) (sym made.events)
      (In-filtered is_input event all_events (any-at (λ (g : Gate). list_any (is_event event) g.inputs) gate tree.gates i e) (in-range event 0 (length system.events) (omega arith) (omega (arith, fits)))))

  -- a tree that is well made may be written
  pub well-made : IsMefTree system tree
  well-made =
      record {
        top_in = made.top_in;
        gates =
            all-to (IsWellMadeGate system (length tree.gates)) (IsMefGate system (length tree.gates))
            (λ gate is. record { inputs = is.inputs_in; count = is.count; few = is.few_inputs }) tree.gates made.gates;
        events_in = subst (AllByRecursion (λ event. event < length system.events)) (sym made.events) (each-in (λ event. event < length system.events) (filter is_input all_events) within);
        events_differ = subst (AllPairs Differ) (sym made.events) (AllPairs-filter Differ is_input all_events (range-differs 0 (length system.events)));
        has_events = both-in (IsWellMadeGate system (length tree.gates)) (HasInputEvents tree) tree.gates made.gates has;
      }
