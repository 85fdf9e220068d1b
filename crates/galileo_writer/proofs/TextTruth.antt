-- The text of a tree is true for the names of a set of events exactly where the tree is true for the set.
use Rattle.std.proofs.Common.{ℕ, zero, suc, ◌≡◌, ◌<◌, ◌^◌, ◌↔◌, Bool, true, false, ◌||◌, ◌==◌, List, [], ◌∷◌, ◌++◌, length, map, slice_get, Some, inl, inr, ⊎_elim, ap, ◌∙◌, sym, subst, refl, arith}
use Rattle.std.proofs.lemmas.Bool.{false≢true, eq-eqb}
use Rattle.std.proofs.lemmas.Option.{slice_get_within}
use Rattle.std.proofs.lemmas.List.Elements.{All-get_or}
use Rattle.std.specs.List.{AllByRecursion, list_any}
use Rattle.aadl_syntax.specs.Form.{IsNumber}
use Rattle.fault_system.specs.Truth.{NumberSet}
use Rattle.fault_system.specs.Systems.{System, IsSystem, Holds, event_name}
use Rattle.fault_system.proofs.Elements.{In}
use Rattle.fault_system.proofs.Marks.{Below}
use Rattle.property_reader.specs.Rates.{conservative_rate}
use Rattle.property_reader.specs.declared.rate.Rate.{Rate}
use Rattle.round_gates.specs.declared.node.GateKind.{GateKind}
use Rattle.round_gates.specs.declared.node.GateKind.TheVariants as kinds
use Rattle.round_gates.specs.declared.tree.Gate.{Gate}
use Rattle.round_gates.specs.declared.tree.Input.{Input}
use Rattle.round_gates.specs.declared.tree.Input.TheVariants as inputs
use Rattle.round_gates.specs.declared.tree.Tree.{Tree}
use Rattle.round_gates.specs.Targets.{IsTreeFor}
use Rattle.round_gates.specs.inner.Targets.{IsWellMade, IsWithin, MayHave}
use Rattle.round_gates.specs.Trees.{is_event}
use Rattle.round_gates.specs.inner.Trees.{IsClosedTree, TreeHolds, input_true}
use Rattle.round_gates.specs.Truths.{kind_true}
use Rattle.round_gates.proofs.MadeWell.{made-well}
use Rattle.round_gates.proofs.TreeTruth.{kind-below, tree-truth}
use Rattle.galileo_writer.specs.Galileo.{Galileo, IsKind, IsPlainLine, IsPlainName, IsTextOf, Line}
use Rattle.galileo_writer.specs.Truth.{IsClosedText, NameSet, Tells, TextTrue, line_true, name_of}
use Rattle.galileo_writer.specs.TreeText.{event_line, gate_line, gate_name, has_name, input_name, name_at, names_of, tree_galileo, tree_text}
use Rattle.galileo_writer.specs.inner.TreeText.{AreRates, HasTextNames}
use Rattle.galileo_writer.proofs.Names.{event-or-gate, event-plain, gate-plain, has-none, has-own, item-there, named-here}
use Rattle.galileo_writer.proofs.OneText.{one-text}
use Rattle.galileo_writer.proofs.TreeNames.{event-within, in-tree, or-right, or-true, at-event, at-name, gate-at-name, gates-differ, good}

all-append : {X : Type 0} (P : X → Type 0) (xs ys : List X) → AllByRecursion P xs → AllByRecursion P ys → AllByRecursion P (xs ++ ys)
all-append P [] ys a b = b
all-append P (x ∷ xs) ys a b = (a.0, all-append P xs ys a.1 b)

all-front : {X : Type 0} (P : X → Type 0) (xs ys : List X) → AllByRecursion P (xs ++ ys) → AllByRecursion P xs
all-front P [] ys h = tt
all-front P (x ∷ xs) ys h = (h.0, all-front P xs ys h.1)

all-back : {X : Type 0} (P : X → Type 0) (xs ys : List X) → AllByRecursion P (xs ++ ys) → AllByRecursion P ys
all-back P [] ys h = h
all-back P (x ∷ xs) ys h = all-back P xs ys h.1

-- what holds of what each item becomes
all-made : {X Y : Type 0} (P : Y → Type 0) (f : X → Y) (xs : List X) → ((n : ℕ) (x : X) → slice_get xs n ≡ Some x → P (f x)) → AllByRecursion P (map f xs)
all-made P f [] each = tt
all-made P f (x ∷ xs) each = (each 0 x refl, all-made P f xs (λ n y at. each (suc n) y at))

made-at : {X Y : Type 0} (P : Y → Type 0) (f : X → Y) (xs : List X) → AllByRecursion P (map f xs) → (n : ℕ) (x : X) → slice_get xs n ≡ Some x → P (f x)
made-at P f [] all n x at = cc
made-at P f (y ∷ xs) all zero x at = let same : y ≡ x = cc in subst (λ z. P (f z)) same all.0
made-at P f (y ∷ xs) all (suc n) x at = made-at P f xs all.1 n x at

in-map : {X Y : Type 0} (P : Y → Type 0) (f : X → Y) (xs : List X) → AllByRecursion P (map f xs) → (x : X) → In x xs → P (f x)
in-map P f [] all x i = absurd i
in-map P f (y ∷ xs) all x i = ⊎_elim (λ e. subst (λ z. P (f z)) e all.0) (λ later. in-map P f xs all.1 x later) i

or-second : (a b : Bool) → a ≡ false → a || b ≡ b
or-second true b e = absurd (false≢true (sym e))
or-second false b e = refl

or-first : (a b : Bool) → b ≡ false → a || b ≡ a
or-first true b e = refl
or-first false b e = e

-- ---- a tree that is well made, in a system whose names may stand in a text

module _ (system : System) (is_system : IsSystem system) (names : HasTextNames system) (tree : Tree) (made : IsWellMade system tree) (rates : List Rate) (are_rates : AreRates system rates) where
  -- ---- the names of a set of events and of a set of gates

  module _ (es : NumberSet) where
    abbrev given : NameSet
    given = names_of system es

    given-event : (n : ℕ) → n < length system.events → given (event_name system n) ≡ es n
    given-event n fits = ap given (at-event system is_system names tree made n) ∙ has-own (λ event. event.name) system.events is_system.events_named es n fits

    given-gate : (n : ℕ) → n < length tree.gates → given (name_at system tree.gates n) ≡ false
    given-gate n fits =
        let gate = item-there tree.gates n fits in
        ap given (gate-at-name system is_system names tree made n gate.0 gate.1)
        ∙ has-none (λ event. event.name) system.events es (gate_name system gate.0) (λ k inside e. event-or-gate system names k inside gate.0 (at-event system is_system names tree made k ∙ e))

    -- the names of the events of a set and of the gates of another
    abbrev both : NumberSet → NameSet
    both set name = given name || has_name (gate_name system) tree.gates set name

    both-event : (set : NumberSet) (n : ℕ) → n < length system.events → both set (event_name system n) ≡ es n
    both-event set n fits =
        or-first (given (event_name system n)) _
        (has-none (gate_name system) tree.gates set (event_name system n) (λ k inside e. let gate = item-there tree.gates k inside in event-or-gate system names n fits gate.0 (sym e ∙ named-here (gate_name system) tree.gates k gate.0 gate.1)))
        ∙ given-event n fits

    both-gate : (set : NumberSet) (n : ℕ) → n < length tree.gates → both set (name_at system tree.gates n) ≡ set n
    both-gate set n fits =
        or-second (given (name_at system tree.gates n)) _ (given-gate n fits)
        ∙ ap (has_name (gate_name system) tree.gates set) (at-name system is_system names tree made n)
        ∙ has-own (gate_name system) tree.gates (gates-differ system is_system names tree made) set n fits

    both-inputs : (set : NumberSet) (ins : List Input) → AllByRecursion (IsWithin (length system.events) (length tree.gates)) ins → map (both set) (map (input_name system tree.gates) ins) ≡ map (input_true es set) ins
    both-inputs set [] inside = refl
    both-inputs set (inputs.Event n ∷ ins) inside = λ i. both-event set n inside.0 i ∷ both-inputs set ins inside.1 i
    both-inputs set (inputs.Gate n ∷ ins) inside = λ i. both-gate set n inside.0 i ∷ both-inputs set ins inside.1 i

    abbrev text : Galileo
    text = tree_galileo system tree rates

    abbrev Says : NameSet → Line → Type 0
    Says set line = line_true given set line ≡ true → set (name_of line) ≡ true

    -- where the text is true, each closed set of positions has the top
    tree-from-text : Tells text given → TreeHolds tree es
    tree-from-text tells set closed =
        sym (both-gate set tree.top made.top_in)
        ∙ tells (both set)
        (all-append (Says (both set)) (map (gate_line system tree.gates) tree.gates) (map (event_line system rates) tree.events)
        (all-made (Says (both set)) (gate_line system tree.gates) tree.gates (λ n gate at e.
        ap (both set) (sym (gate-at-name system is_system names tree made n gate at)) ∙ both-gate set n (slice_get_within tree.gates n gate at)
        ∙ closed n gate at (ap (kind_true gate.kind) (sym (both-inputs set gate.inputs (good system is_system names tree made n gate at).inputs_in)) ∙ e)))
        (all-made (Says (both set)) (event_line system rates) tree.events (λ n event at e. or-true (given (event_name system event)) _ e)))

    module _ (set : NameSet) (closed : IsClosedText text.lines given set) where
      abbrev positions : NumberSet
      positions n = set (name_at system tree.gates n)

      gate-says : (n : ℕ) (gate : Gate) → slice_get tree.gates n ≡ Some gate → Says set (gate_line system tree.gates gate)
      gate-says = made-at (Says set) (gate_line system tree.gates) tree.gates (all-front (Says set) (map (gate_line system tree.gates) tree.gates) (map (event_line system rates) tree.events) closed)

      event-says : (event : ℕ) → In event tree.events → Says set (event_line system rates event)
      event-says = in-map (Says set) (event_line system rates) tree.events (all-back (Says set) (map (gate_line system tree.gates) tree.gates) (map (event_line system rates) tree.events) closed)

      inputs-below : (n : ℕ) (gate : Gate) → slice_get tree.gates n ≡ Some gate → (ins : List Input) → AllByRecursion (IsWithin (length system.events) (length tree.gates)) ins
          → ((k : ℕ) → list_any (is_event k) ins ≡ true → list_any (is_event k) gate.inputs ≡ true) → Below (map (input_true es positions) ins) (map set (map (input_name system tree.gates) ins))
      inputs-below n gate at [] inside part = tt
      inputs-below n gate at (inputs.Event k ∷ ins) inside part = (
        (λ e. event-says k (in-tree system is_system names tree made k inside.0 n gate at (part k (or-true (k == k) (list_any (is_event k) ins) (eq-eqb k k refl)))) (given-event k inside.0 ∙ e)),
        inputs-below n gate at ins inside.1 (λ j e. part j (or-right (k == j) (list_any (is_event j) ins) e)),
      )
      inputs-below n gate at (inputs.Gate k ∷ ins) inside part = ((λ e. e), inputs-below n gate at ins inside.1 part)

      positions-closed : IsClosedTree tree.gates es positions
      positions-closed n gate at e =
          ap set (gate-at-name system is_system names tree made n gate at) ∙ gate-says n gate at (kind-below gate.kind _ _ (inputs-below n gate at gate.inputs (good system is_system names tree made n gate at).inputs_in (λ k h. h)) e)

    -- where the tree is true, each closed set of names has the top
    text-from-tree : TreeHolds tree es → Tells text given
    text-from-tree holds set closed = holds (positions set closed) (positions-closed set closed)

  -- ---- the text of the tree may stand

  plain-at : (n : ℕ) → n < length tree.gates → IsPlainName (name_at system tree.gates n)
  plain-at n fits =
      let gate = item-there tree.gates n fits in
      subst IsPlainName (sym (gate-at-name system is_system names tree made n gate.0 gate.1)) (gate-plain system names gate.0 (good system is_system names tree made n gate.0 gate.1).fact_in)

  plain-inputs : (ins : List Input) → AllByRecursion (IsWithin (length system.events) (length tree.gates)) ins → AllByRecursion IsPlainName (map (input_name system tree.gates) ins)
  plain-inputs [] inside = tt
  plain-inputs (inputs.Event n ∷ ins) inside = (event-plain system names n inside.0, plain-inputs ins inside.1)
  plain-inputs (inputs.Gate n ∷ ins) inside = (plain-at n inside.0, plain-inputs ins inside.1)

  plain-kind : (kind : GateKind) (count : ℕ) → count < 2 ^ 32 → MayHave kind count → IsKind kind
  plain-kind kinds.And count few may = tt
  plain-kind kinds.Or count few may = tt
  plain-kind (kinds.AtLeast k) count few may = omega (arith, may.1)

  plain-event : (event : ℕ) → In event tree.events → IsPlainLine (event_line system rates event)
  plain-event event i =
      let fits = event-within system is_system names tree made event i in
      (event-plain system names event fits, All-get_or (λ (rate : Rate). IsNumber rate.text) rates event conservative_rate (omega (arith, are_rates.each)) are_rates.numbers)

  is-text : IsTextOf (tree_text system tree rates) (tree_galileo system tree rates)
  is-text =
      record {
        top = plain-at tree.top made.top_in;
        lines = all-append IsPlainLine (map (gate_line system tree.gates) tree.gates) (map (event_line system rates) tree.events)
            (all-made IsPlainLine (gate_line system tree.gates) tree.gates
            (λ n gate at. let is = good system is_system names tree made n gate at in (gate-plain system names gate is.fact_in, plain-kind gate.kind (length gate.inputs) is.few_inputs is.count, plain-inputs gate.inputs is.inputs_in)))
            (plain-events tree.events plain-event);
        bytes_are = refl;
      } where
        plain-events : (events : List ℕ) → ((event : ℕ) → In event events → IsPlainLine (event_line system rates event)) → AllByRecursion IsPlainLine (map (event_line system rates) events)
        plain-events [] each = tt
        plain-events (event ∷ events) each = (each event (inl refl), plain-events events (λ k i. each k (inr i)))

  -- the text is true for the names of a set of events exactly where the tree is true for the set
  pub text-truth : (es : NumberSet) → TextTrue (tree_text system tree rates) (names_of system es) ↔ TreeHolds tree es
  text-truth es = (
    (λ is_true. tree-from-text es (subst (λ (t : Galileo). Tells t (names_of system es)) (one-text (tree_text system tree rates) is_true.text (tree_galileo system tree rates) is_true.is_text is-text) is_true.tells)),
    (λ holds. record { text = tree_galileo system tree rates; is_text = is-text; tells = text-from-tree es holds }),
  )

-- the text of a tree of a target is true exactly where the target holds
pub target-text : (system : System) (target : ℕ) (tree : Tree) (rates : List Rate) (es : NumberSet) → IsSystem system → HasTextNames system → AreRates system rates → IsTreeFor system target tree
    → TextTrue (tree_text system tree rates) (names_of system es) ↔ Holds system es target
target-text system target tree rates es is_system names are_rates is =
    let text = text-truth system is_system names tree (made-well system target tree is_system is) rates are_rates es in
    let truth = tree-truth system target tree es is_system is in
    ((λ t. truth.0 (text.0 t)), (λ holds. text.1 (truth.1 holds)))
