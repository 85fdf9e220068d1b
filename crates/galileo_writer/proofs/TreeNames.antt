-- The names in the text of a tree: they differ, gates and events together.
use Rattle.std.proofs.Common.{ℕ, zero, suc, ◌+◌, ◌≡◌, ◌<◌, ◌≤◌, Bool, true, false, ◌||◌, List, [], ◌∷◌, length, map, get_or, slice_get, Some, inl, inr, ⊎_elim, ap, ◌∙◌, sym, subst, refl, arith}
use lib.ListN.{length-map}
use Rattle.std.proofs.lemmas.Bool.{false≢true, cases_order}
use Rattle.std.proofs.lemmas.List.{get_or_default}
use Rattle.std.specs.List.{AllByRecursion, list_any, range_with_len}
use Rattle.fault_system.proofs.Elements.{In, In-filter, In-filtered}
use Rattle.fault_system.specs.Systems.{System, IsSystem, NamesDiffer, event_name}
use Rattle.round_gates.specs.declared.tree.Gate.{Gate}
use Rattle.round_gates.specs.declared.tree.Input.{Input}
use Rattle.round_gates.specs.declared.tree.Input.TheVariants as inputs
use Rattle.round_gates.specs.declared.tree.Tree.{Tree}
use Rattle.round_gates.specs.inner.Targets.{IsWellMade, IsWellMadeGate, IsWithin}
use Rattle.round_gates.specs.Trees.{is_event, key_of}
use Rattle.round_gates.proofs.OneTree.{one-position}
use Rattle.round_gates.proofs.TreeTruth.{key-there}
use Rattle.galileo_writer.specs.TreeText.{gate_name, input_name, name_at}
use Rattle.galileo_writer.specs.inner.TreeText.{HasTextNames}
use Rattle.galileo_writer.proofs.Names.{event-or-gate, item-there, named-at, named-here, one-gate-name, one-number}

all-at : {X : Type 0} (P : X → Type 0) (xs : List X) → AllByRecursion P xs → (n : ℕ) (x : X) → slice_get xs n ≡ Some x → P x
all-at P [] all n x at = cc
all-at P (y ∷ xs) all zero x at = let same : y ≡ x = cc in subst P same all.0
all-at P (y ∷ xs) all (suc n) x at = all-at P xs all.1 n x at

pub or-right : (a b : Bool) → b ≡ true → a || b ≡ true
or-right true b e = refl
or-right false b e = e

pub or-true : (a b : Bool) → a ≡ true → a || b ≡ true
or-true true b e = refl
or-true false b e = absurd (false≢true e)

in-range : (n low count : ℕ) → low ≤ n → n < low + count → In n (range_with_len low count)
in-range n low zero l h = absurd (omega arith)
in-range n low (suc count) l h =
    ⊎_elim (λ e. inl e) (λ apart. ⊎_elim (λ less. inr (in-range n (low + 1) count (omega arith) (omega arith))) (λ more. absurd (omega arith)) apart) (cases_order low n)

any-at : {X : Type 0} (p : X → Bool) (xs : List X) (n : ℕ) (x : X) → slice_get xs n ≡ Some x → p x ≡ true → list_any p xs ≡ true
any-at p [] n x at e = cc
any-at p (y ∷ xs) zero x at e = let same : y ≡ x = cc in or-true (p y) (list_any p xs) (ap p same ∙ e)
any-at p (y ∷ xs) (suc n) x at e = by (p y) (any-at p xs n x at e)
  where
    by : (b : Bool) → list_any p xs ≡ true → b || list_any p xs ≡ true
    by true h = refl
    by false h = h

range-bound : (n low count : ℕ) → In n (range_with_len low count) → n < low + count
range-bound n low zero i = absurd i
range-bound n low (suc count) i = ⊎_elim (λ (e : low ≡ n). omega arith) (λ later. let rest = range-bound n (low + 1) count later in omega arith) i

-- ---- a tree that is well made, in a system whose names may stand in a text

module _ (system : System) (is_system : IsSystem system) (names : HasTextNames system) (tree : Tree) (made : IsWellMade system tree) where
  -- what is known of a gate at a position
  pub good : (n : ℕ) (gate : Gate) → slice_get tree.gates n ≡ Some gate → IsWellMadeGate system (length tree.gates) gate
  good = all-at (IsWellMadeGate system (length tree.gates)) tree.gates made.gates

  abbrev pub gate_names : List (List ℕ)
  gate_names = map (gate_name system) tree.gates

  abbrev pub event_names : List (List ℕ)
  event_names = map (λ event. event.name) system.events

  pub at-name : (n : ℕ) → name_at system tree.gates n ≡ get_or gate_names n []
  at-name n = named-at (gate_name system) tree.gates n

  pub at-event : (n : ℕ) → event_name system n ≡ get_or event_names n []
  at-event n = named-at (λ event. event.name) system.events n

  pub gate-at-name : (n : ℕ) (gate : Gate) → slice_get tree.gates n ≡ Some gate → name_at system tree.gates n ≡ gate_name system gate
  gate-at-name n gate at = at-name n ∙ named-here (gate_name system) tree.gates n gate at

  pub one-gate-position : (m n : ℕ) → m < length tree.gates → n < length tree.gates → get_or gate_names m [] ≡ get_or gate_names n [] → m ≡ n
  one-gate-position m n here there e =
      let g = item-there tree.gates m here in
      let h = item-there tree.gates n there in
      let a = good m g.0 g.1 in
      let b = good n h.0 h.1 in
      let key : key_of g.0 ≡ key_of h.0
      = one-gate-name system is_system g.0 h.0 a.fact_in b.fact_in a.short_stage b.short_stage a.short_place b.short_place (sym (named-here (gate_name system) tree.gates m g.0 g.1) ∙ e ∙ named-here (gate_name system) tree.gates n h.0 h.1) in
      let long : length (map key_of tree.gates) ≡ length tree.gates = length-map tree.gates key_of in
      one-position (map key_of tree.gates) made.rise m n (record { fact = 0; stage = 0; place = 0 }) (omega arith) (omega arith) (key-there tree.gates m g.0 g.1 ∙ key ∙ sym (key-there tree.gates n h.0 h.1))

  pub gates-differ : NamesDiffer gate_names
  gates-differ i j d less fits e =
      let long : length gate_names ≡ length tree.gates = length-map tree.gates (gate_name system) in
      let to_empty : (k : ℕ) → k < length gate_names → get_or gate_names k d ≡ get_or gate_names k [] = λ k inside. get_or_default gate_names k d [] inside in
      let same : i ≡ j = one-gate-position i j (omega arith) (omega arith) (sym (to_empty i (omega arith)) ∙ e ∙ to_empty j fits) in
      omega arith

  pub one-event : (m n : ℕ) → m < length system.events → n < length system.events → event_name system m ≡ event_name system n → m ≡ n
  one-event m n here there e =
      let long : length event_names ≡ length system.events = length-map system.events (λ event. event.name) in
      one-number event_names is_system.events_named m n (omega arith) (omega arith) (sym (at-event m) ∙ e ∙ at-event n)

  -- inputs of one name are one
  pub one-input : (a b : Input) → IsWithin (length system.events) (length tree.gates) a → IsWithin (length system.events) (length tree.gates) b → input_name system tree.gates a ≡ input_name system tree.gates b → a ≡ b
  one-input (inputs.Event m) (inputs.Event n) p q e = ap inputs.Event (one-event m n p q e)
  one-input (inputs.Event m) (inputs.Gate n) p q e = let gate = item-there tree.gates n q in absurd (event-or-gate system names m p gate.0 (e ∙ gate-at-name n gate.0 gate.1))
  one-input (inputs.Gate m) (inputs.Event n) p q e = let gate = item-there tree.gates m p in absurd (event-or-gate system names n q gate.0 (sym e ∙ gate-at-name m gate.0 gate.1))
  one-input (inputs.Gate m) (inputs.Gate n) p q e = ap inputs.Gate (one-gate-position m n p q (sym (at-name m) ∙ e ∙ at-name n))

  -- an event that is an input of a gate is one of the tree's
  pub in-tree : (event : ℕ) → event < length system.events → (n : ℕ) (gate : Gate) → slice_get tree.gates n ≡ Some gate → list_any (is_event event) gate.inputs ≡ true → In event tree.events
  in-tree event fits n gate at e =
      subst (In event) (sym made.events)
      (In-filtered (λ k. list_any (λ g. list_any (is_event k) g.inputs) tree.gates) event (range_with_len 0 (length system.events)) (any-at (λ g. list_any (is_event event) g.inputs) tree.gates n gate at e)
      (in-range event 0 (length system.events) (omega arith) (omega arith)))

  pub event-within : (event : ℕ) → In event tree.events → event < length system.events
  event-within event i =
      let there = In-filter (λ k. list_any (λ g. list_any (is_event k) g.inputs) tree.gates) event (range_with_len 0 (length system.events)) (subst (In event) made.events i) in
      let below = range-bound event 0 (length system.events) there.0 in
      omega arith
