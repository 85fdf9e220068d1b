-- The tree that is read of a written text is true exactly where the tree is that was written.
use Rattle.std.proofs.Common.{false, ℕ, zero, suc, ◌≡◌, ◌≤◌, ◌↔◌, Bool, true, ◌==◌, List, [], ◌∷◌, ◌++◌, map, length, slice_get, slice_index_or, Some, inl, inr, ap, ◌∙◌, sym, refl}
use Rattle.std.specs.List.{AllByRecursion, list_any}
use Rattle.std.specs.Option.{option_map}
use Rattle.std.proofs.lemmas.Bool.{eq-eqb}
use Rattle.std.proofs.lemmas.Option.{slice_get-map, slice_get_within}
use Rattle.fault_system.specs.Truth.{NumberSet, Has, truth}
use Rattle.fault_system.specs.Systems.{Holds, IsClosed, IsSystem, System, event_name as name_in}
use Rattle.fault_system.specs.declared.formula.FactInfo.{FactInfo}
use Rattle.fault_system.proofs.Elements.{In}
use Rattle.fault_system.proofs.NumberSets.{member-map}
use Rattle.property_reader.specs.declared.rate.Rate.{Rate}
use Rattle.round_gates.specs.declared.tree.Gate.{Gate}
use Rattle.round_gates.specs.declared.tree.Input.{Input}
use Rattle.round_gates.specs.declared.tree.Input.TheVariants as inputs
use Rattle.round_gates.specs.declared.tree.Tree.{Tree}
use Rattle.round_gates.specs.Targets.{IsTreeFor}
use Rattle.round_gates.specs.inner.Targets.{IsWellMade, IsWithin}
use Rattle.round_gates.specs.Trees.{is_event}
use Rattle.round_gates.specs.inner.Trees.{IsClosedTree, TreeHolds, gate_true, input_true}
use Rattle.round_gates.specs.Truths.{kind_true}
use Rattle.round_gates.proofs.GateFormulas.{kind-truth}
use Rattle.round_gates.proofs.MadeWell.{made-well}
use Rattle.round_gates.proofs.TreeTruth.{tree-truth}
use Rattle.galileo_writer.specs.Galileo.{Galileo, Line}
use Rattle.galileo_writer.specs.Truth.{IsClosedText, NameSet, Tells, line_true}
use Rattle.galileo_writer.specs.TreeText.{names_of, tree_text}
use Rattle.galileo_writer.specs.inner.TreeText.{AreRates, HasTextNames}
use Rattle.galileo_writer.proofs.Names.{has-own}
use Rattle.galileo_writer.proofs.TreeNames.{at-event, event-within, good, in-tree, or-right, or-true}
use Rattle.galileo_reader.specs.declared.tree.NamedEvent.{NamedEvent}
use Rattle.galileo_reader.specs.declared.tree.NamedGate.{NamedGate}
use Rattle.galileo_reader.specs.declared.tree.NamedTree.{NamedTree}
use Rattle.galileo_reader.specs.inner.Trees.{IsNamedTree}
use Rattle.galileo_reader.specs.TreeSystems.{gate_fact, system_of, top_facts}
use Rattle.galileo_reader.specs.Truth.{event_name}
use Rattle.galileo_reader.specs.inner.Truth.{StaticTrue, event_line, gate_line, tree_galileo}
use Rattle.galileo_reader.specs.inner.Written.{event_at, event_place, named_event, named_gate, named_input, named_tree}
use Rattle.galileo_reader.proofs.RoundTrip.{text-read}
use Rattle.galileo_reader.proofs.SystemLaws.{Made, behind, given-event, made-at, made-from, member-has, named-in, of_one, system-truth}
use Rattle.galileo_reader.proofs.TreeTexts.{text-truth, tree-named}
use Rattle.galileo_reader.proofs.WrittenTrees.{event-placed}

-- what stands at a place
pub got : {X : Type 0} (xs : List X) (n : ℕ) (x d : X) → slice_get xs n ≡ Some x → slice_index_or xs n d ≡ x
got [] n x d at = cc
got (y ∷ xs) zero x d at = cc
got (y ∷ xs) (suc n) x d at = got xs n x d at

-- of what an item was made
made-of : {X Y : Type 0} (f : X → Y) (xs : List X) (n : ℕ) (y : Y) → slice_get (map f xs) n ≡ Some y → (x : X) × (slice_get xs n ≡ Some x) × (f x ≡ y)
made-of f [] n y at = cc
made-of f (x ∷ xs) zero y at = (x, refl, cc)
made-of f (x ∷ xs) (suc n) y at = made-of f xs n y at

-- two sets of given names that no line tells apart
abbrev Agree : NameSet → NameSet → Line → Type 0
Agree a b line = (set : NameSet) → line_true a set line ≡ line_true b set line

closed-agree : (a b set : NameSet) (lines : List Line) → AllByRecursion (Agree a b) lines → IsClosedText lines b set → IsClosedText lines a set
closed-agree a b set [] agree closed = tt
closed-agree a b set (line ∷ lines) agree closed = ((λ e. closed.0 (sym (agree.0 set) ∙ e)), closed-agree a b set lines agree.1 closed.1)

tells-agree : (text : Galileo) (a b : NameSet) → AllByRecursion (Agree a b) text.lines → Tells text a → Tells text b
tells-agree text a b agree tells set closed = tells set (closed-agree a b set text.lines agree closed)

agree-back : (a b : NameSet) (lines : List Line) → AllByRecursion (Agree a b) lines → AllByRecursion (Agree b a) lines
agree-back a b [] agree = tt
agree-back a b (line ∷ lines) agree = ((λ set. sym (agree.0 set)), agree-back a b lines agree.1)

module _ (system : System) (is_system : IsSystem system) (names : HasTextNames system) (tree : Tree) (made : IsWellMade system tree) (rates : List Rate) where
  abbrev tree_read : NamedTree
  tree_read = named_tree system tree rates

  abbrev system_read : System
  system_read = system_of (named_tree system tree rates)

  -- a set of events of the system, at its places among the events of the tree
  pub placed-again : (given : NumberSet) (n : ℕ) → In n tree.events → given (event_at tree.events (event_place tree.events n)) ≡ given n
  placed-again given n i = ap given (got tree.events (event_place tree.events n) n 0 (event-placed tree.events n i))

  module _ (es given : NumberSet) (agree : (n : ℕ) → In n tree.events → es (event_place tree.events n) ≡ given n) where
    inputs-agree : (set : NumberSet) (n : ℕ) (gate : Gate) → slice_get tree.gates n ≡ Some gate → (ins : List Input) → AllByRecursion (IsWithin (length system.events) (length tree.gates)) ins
        → ((k : ℕ) → list_any (is_event k) ins ≡ true → list_any (is_event k) gate.inputs ≡ true) → map (input_true es set) (map (named_input tree) ins) ≡ map (input_true given set) ins
    inputs-agree set n gate at [] inside part = refl
    inputs-agree set n gate at (inputs.Event k ∷ ins) inside part =
        let first = agree k (in-tree system is_system names tree made k inside.0 n gate at (part k (or-true (k == k) (list_any (is_event k) ins) (eq-eqb k k refl)))) in
        λ i. first i ∷ inputs-agree set n gate at ins inside.1 (λ j e. part j (or-right (k == j) (list_any (is_event j) ins) e)) i
    inputs-agree set n gate at (inputs.Gate k ∷ ins) inside part = ap (λ bs. set k ∷ bs) (inputs-agree set n gate at ins inside.1 part)

    abbrev fact_of : Gate → FactInfo
    fact_of gate = gate_fact (named_gate system tree gate)

    formula-agree : (set : NumberSet) (n : ℕ) (gate : Gate) → slice_get tree.gates n ≡ Some gate → truth es set (fact_of gate).formula ≡ gate_true given set gate
    formula-agree set n gate at =
        kind-truth es set gate.kind (map (named_input tree) gate.inputs)
        ∙ ap (kind_true gate.kind) (inputs-agree set n gate at gate.inputs (good system is_system names tree made n gate at).inputs_in (λ k h. h))

    abbrev says : NumberSet → FactInfo → Bool
    says set fact = truth es set fact.formula

    fact-at : (n : ℕ) (gate : Gate) → slice_get tree.gates n ≡ Some gate → slice_get system_read.facts n ≡ Some (fact_of gate)
    fact-at n gate at = made-at gate_fact tree_read.gates (top_facts tree_read tree_read.top) n (named_gate system tree gate) (slice_get-map (named_gate system tree) tree.gates n ∙ ap (option_map (named_gate system tree)) at)

    to-tree : (set : NumberSet) → IsClosed system_read es set → IsClosedTree tree.gates given set
    to-tree set closed n gate at e = closed n (member-map (says set) system_read.facts n (fact_of gate) (fact-at n gate at) ∙ formula-agree set n gate at ∙ e)

    to-system : (set : NumberSet) → IsClosedTree tree.gates given set → IsClosed system_read es set
    to-system set closed n e =
        let (fact, at, is_true) = member-has (says set) system_read.facts n e in
        by fact is_true (made-from gate_fact tree_read.gates (top_facts tree_read tree_read.top) n fact at)
      where
        none : (k : ℕ) (fact : FactInfo) → slice_get [] k ≡ Some fact → Has set n
        none k fact here = cc

        by : (fact : FactInfo) → says set fact ≡ true → Made gate_fact tree_read.gates (top_facts tree_read tree_read.top) n fact → Has set n
        by fact is_true (of_one gate here same) =
            let (own, at, is) = made-of (named_gate system tree) tree.gates n gate here in
            closed n own at (sym (formula-agree set n own at) ∙ ap (λ (g : NamedGate). says set (gate_fact g)) is ∙ ap (says set) same ∙ is_true)
        by fact is_true (behind k number here) = none k fact here

    -- the system that is read holds under the one where the tree is true under the other
    pub holds-again : Holds system_read es tree.top ↔ TreeHolds tree given
    holds-again = ((λ holds set closed. holds set (to-system set closed)), (λ holds set closed. holds set (to-tree set closed)))

    -- the names of the two are told apart by no line
    module _ (named : IsNamedTree tree_read) where
      same-names : (n : ℕ) → In n tree.events → names_of system_read es (name_in system n) ≡ names_of system given (name_in system n)
      same-names n i =
          let place = event_place tree.events n in
          let at : slice_get tree_read.events place ≡ Some (named_event system rates n) = slice_get-map (named_event system rates) tree.events place ∙ ap (option_map (named_event system rates)) (event-placed tree.events n i) in
          let own : event_name tree_read place ≡ name_in system n = named-in (λ (event : NamedEvent). event.name) tree_read.events place (named_event system rates n) at in
          ap (names_of system_read es) (sym own)
          ∙ given-event tree_read named es place (slice_get_within tree_read.events place (named_event system rates n) at)
          ∙ agree n i
          ∙ sym (ap (names_of system given) (at-event system is_system names tree made n) ∙ has-own (λ event. event.name) system.events is_system.events_named given n (event-within system is_system names tree made n i))

      lines-agree : (gates : List NamedGate) (events : List ℕ) → ((n : ℕ) → In n events → In n tree.events)
          → AllByRecursion (Agree (names_of system_read es) (names_of system given)) (map (gate_line tree_read) gates ++ map event_line (map (named_event system rates) events))
      lines-agree [] [] part = tt
      lines-agree [] (event ∷ events) part = ((λ set. same-names event (part event (inl refl))), lines-agree [] events (λ n i. part n (inr i)))
      lines-agree (gate ∷ gates) events part = ((λ set. refl), lines-agree gates events part)

      pub tells-again : Tells (tree_galileo tree_read) (names_of system given) ↔ TreeHolds tree given
      tells-again =
          let truth = system-truth tree_read named es in
          let agreed = lines-agree tree_read.gates tree.events (λ n i. i) in (
            (λ tells. holds-again.0 (truth.0 (tells-agree (tree_galileo tree_read) (names_of system given) (names_of system_read es) (agree-back _ _ (tree_galileo tree_read).lines agreed) tells))),
            (λ holds. tells-agree (tree_galileo tree_read) (names_of system_read es) (names_of system given) agreed (truth.1 (holds-again.1 holds))),
          )

-- the written text of a target's tree is true for the names of a set of events exactly where the target holds
pub text-holds : (system : System) (target : ℕ) (tree : Tree) (rates : List Rate) (given : NumberSet) → IsSystem system → HasTextNames system → AreRates system rates → IsTreeFor system target tree
    → length (tree_text system tree rates) ≤ 4194304 → StaticTrue false (tree_text system tree rates) (names_of system given) ↔ Holds system given target
text-holds system target tree rates given is_system names are_rates is few =
    let made = made-well system target tree is_system is in
    let (lines, are, of_lines) = text-read system tree rates is_system names are_rates made few in
    let text = text-truth false (tree_text system tree rates) lines (named_tree system tree rates) are of_lines (names_of system given) in
    let tells = tells-again system is_system names tree made rates (λ place. given (event_at tree.events place)) given (placed-again system is_system names tree made rates given)
    (tree-named lines (named_tree system tree rates) of_lines) in
    let truth = tree-truth system target tree given is_system is in
    ((λ t. truth.0 (tells.0 (text.0 t))), (λ holds. text.1 (tells.1 (truth.1 holds))))
