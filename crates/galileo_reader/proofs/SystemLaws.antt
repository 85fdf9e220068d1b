-- The system of a tree: it is one, its target is a fact of it, and it holds what the tree, as a text, tells.
use Rattle.std.proofs.Common.{ℕ, zero, suc, ◌+◌, ◌≡◌, ◌<◌, ◌≤◌, ◌↔◌, Bool, true, false, ◌||◌, List, [], ◌∷◌, ◌++◌, length, map, get_or, slice_get, Some, unwrap_or, ⊎_elim, ap, ◌∙◌, sym, subst, refl, arith}
use Rattle.std.specs.List.{AllByRecursion}
use Rattle.std.specs.Option.{option_map}
use lib.ListN.{length-map}
use Rattle.std.proofs.lemmas.Bool.{false≢true, cases_lt}
use Rattle.std.proofs.lemmas.List.{get_or_append_left, get_or-append-add, get_or_default, length-append, map-append}
use Rattle.std.proofs.lemmas.List.Elements.{All-from_recursion}
use Rattle.std.proofs.lemmas.Option.{slice_get_within}
use Rattle.fault_system.specs.Truth.{NumberSet, Has, member, in_range, truth}
use Rattle.fault_system.specs.Systems.{Holds, IsClosed, IsSystem, NamesDiffer, System, applied}
use Rattle.fault_system.specs.declared.formula.EventInfo.{EventInfo}
use Rattle.fault_system.specs.declared.formula.FactInfo.{FactInfo}
use Rattle.fault_system.proofs.Marks.{Below}
use Rattle.round_gates.specs.declared.node.GateKind.TheVariants as kinds
use Rattle.round_gates.specs.declared.tree.Input.{Input}
use Rattle.round_gates.specs.declared.tree.Input.TheVariants as inputs
use Rattle.round_gates.specs.Formulas.{input_formula, kind_formula}
use Rattle.round_gates.specs.inner.Targets.{IsWithin}
use Rattle.round_gates.specs.inner.Trees.{input_true}
use Rattle.round_gates.specs.Truths.{kind_true}
use Rattle.round_gates.proofs.GateFormulas.{kind-range, kind-truth}
use Rattle.round_gates.proofs.TreeTruth.{kind-below}
use Rattle.galileo_writer.specs.Galileo.{Line}
use Rattle.galileo_writer.specs.Truth.{IsClosedText, NameSet, Tells, line_true, name_of}
use Rattle.galileo_writer.specs.TreeText.{has_name, names_of}
use Rattle.galileo_writer.proofs.Names.{has-none, has-own, item-there, named-at, named-here}
use Rattle.galileo_reader.specs.declared.tree.NamedEvent.{NamedEvent}
use Rattle.galileo_reader.specs.declared.tree.NamedGate.{NamedGate}
use Rattle.galileo_reader.specs.declared.tree.NamedTree.{NamedTree}
use Rattle.galileo_reader.specs.inner.Trees.{HasInputs, IsNamedTree}
use Rattle.galileo_reader.specs.TreeSystems.{event_info, gate_fact, system_of, target_of, top_facts}
use Rattle.galileo_reader.specs.Truth.{event_name}
use Rattle.galileo_reader.specs.inner.Truth.{event_line, gate_line, gate_name, input_name, tree_galileo}

-- ---- items of a list that was made of others

pub made-at : {X Y : Type 0} (make : X → Y) (xs : List X) (ys : List Y) (n : ℕ) (x : X) → slice_get xs n ≡ Some x → slice_get (map make xs ++ ys) n ≡ Some (make x)
made-at make [] ys n x at = cc
made-at make (z ∷ xs) ys zero x at = let same : z ≡ x = cc in ap (λ z. Some (make z)) same
made-at make (z ∷ xs) ys (suc n) x at = made-at make xs ys n x at

-- an item of such a list was made of one, or is one of those behind
pub data Made {X Y : Type 0} (make : X → Y) (xs : List X) (ys : List Y) (n : ℕ) (y : Y) : Type 0 where
  of_one : (x : X) → slice_get xs n ≡ Some x → make x ≡ y → Made make xs ys n y
  behind : (k : ℕ) → n ≡ length xs + k → slice_get ys k ≡ Some y → Made make xs ys n y

pub made-from : {X Y : Type 0} (make : X → Y) (xs : List X) (ys : List Y) (n : ℕ) (y : Y) → slice_get (map make xs ++ ys) n ≡ Some y → Made make xs ys n y
made-from make [] ys n y at = behind n (plus n) at
  where
    plus : (n : ℕ) → n ≡ 0 + n
    plus n = omega arith
made-from make (x ∷ xs) ys zero y at = of_one x refl (cc)
made-from make (x ∷ xs) ys (suc n) y at = more (made-from make xs ys n y at)
  where
    more : Made make xs ys n y → Made make (x ∷ xs) ys (suc n) y
    more (of_one z here same) = of_one z here same
    more (behind k number here) = behind k (omega (arith, number)) here

member-at : {X : Type 0} (test : X → Bool) (xs : List X) (n : ℕ) (x : X) → slice_get xs n ≡ Some x → member (map test xs) n ≡ test x
member-at test [] n x at = cc
member-at test (y ∷ xs) zero x at = let same : y ≡ x = cc in ap test same
member-at test (y ∷ xs) (suc n) x at = member-at test xs n x at

pub member-has : {X : Type 0} (test : X → Bool) (xs : List X) (n : ℕ) → member (map test xs) n ≡ true → (x : X) × (slice_get xs n ≡ Some x) × (test x ≡ true)
member-has test [] n e = cc
member-has test (x ∷ xs) zero e = (x, refl, e)
member-has test (x ∷ xs) (suc n) e = member-has test xs n e

map-map : {X Y Z : Type 0} (f : Y → Z) (g : X → Y) (h : X → Z) (xs : List X) → ((x : X) → f (g x) ≡ h x) → map f (map g xs) ≡ map h xs
map-map f g h [] same = refl
map-map f g h (x ∷ xs) same = λ i. same x i ∷ map-map f g h xs same i

pub named-in : {X : Type 0} (named : X → List ℕ) (items : List X) (n : ℕ) (x : X) → slice_get items n ≡ Some x → unwrap_or (option_map named (slice_get items n)) [] ≡ named x
named-in named items n x at = ap (λ o. unwrap_or (option_map named o) []) at

-- ---- names that differ, in a front and behind it

differ-front : (xs ys : List (List ℕ)) → NamesDiffer (xs ++ ys) → NamesDiffer xs
differ-front xs ys differ i j d less fits same =
    differ i j d less (omega (arith, fits, length-append xs ys)) (get_or_append_left xs ys d i (omega (arith, less, fits)) ∙ same ∙ sym (get_or_append_left xs ys d j fits))

differ-back : (xs ys : List (List ℕ)) → NamesDiffer (xs ++ ys) → NamesDiffer ys
differ-back xs ys differ i j d less fits same =
    differ (length xs + i) (length xs + j) d (omega (arith, less)) (omega (arith, fits, length-append xs ys)) (get_or-append-add xs ys i d ∙ same ∙ sym (get_or-append-add xs ys j d))

differ-across : (xs ys : List (List ℕ)) → NamesDiffer (xs ++ ys) → (i j : ℕ) (d : List ℕ) → i < length xs → j < length ys → get_or xs i d ≡ get_or ys j d → ⊥
differ-across xs ys differ i j d here there same =
    differ i (length xs + j) d (omega (arith, here)) (omega (arith, there, length-append xs ys)) (get_or_append_left xs ys d i here ∙ same ∙ sym (get_or-append-add xs ys j d))

-- one name more
differ-one : (xs : List (List ℕ)) (name : List ℕ) → NamesDiffer xs → ((i : ℕ) (d : List ℕ) → i < length xs → get_or xs i d ≡ name → ⊥) → NamesDiffer (xs ++ name ∷ [])
differ-one xs name differ apart i j d less fits same =
    ⊎_elim
    (λ before. differ i j d less before (sym (get_or_append_left xs (name ∷ []) d i (omega (arith, less, before))) ∙ same ∙ get_or_append_left xs (name ∷ []) d j before))
    (λ last.
    let is_last : j ≡ length xs + 0 = omega (arith, last, fits, length-append xs (name ∷ [])) in
    apart i d (omega (arith, less, is_last)) (sym (get_or_append_left xs (name ∷ []) d i (omega (arith, less, is_last))) ∙ same ∙ ap (λ n. get_or (xs ++ name ∷ []) n d) is_last ∙ get_or-append-add xs (name ∷ []) 0 d))
    (cases_lt j (length xs))

module _ (tree : NamedTree) (named : IsNamedTree tree) where
  abbrev gate_names : List (List ℕ)
  gate_names = map (λ gate. gate.name) tree.gates

  abbrev event_names : List (List ℕ)
  event_names = map (λ event. event.name) tree.events

  abbrev system : System
  system = system_of tree

  gate-names-long : length gate_names ≡ length tree.gates
  gate-names-long = length-map tree.gates (λ (gate : NamedGate). gate.name)

  event-names-long : length event_names ≡ length tree.events
  event-names-long = length-map tree.events (λ (event : NamedEvent). event.name)

  events-long : length (map event_info tree.events) ≡ length tree.events
  events-long = length-map tree.events event_info

  infos-named : map (λ (event : EventInfo). event.name) (map event_info tree.events) ≡ event_names
  infos-named = map-map (λ (event : EventInfo). event.name) event_info (λ (event : NamedEvent). event.name) tree.events (λ event. refl)

  -- the name of an event of the tree, and of a gate
  event-at : (n : ℕ) → event_name tree n ≡ get_or event_names n []
  event-at n = named-at (λ (event : NamedEvent). event.name) tree.events n

  gate-at : (n : ℕ) → gate_name tree n ≡ get_or gate_names n []
  gate-at n = named-at (λ (gate : NamedGate). gate.name) tree.gates n

  gate-named : (n : ℕ) (gate : NamedGate) → slice_get tree.gates n ≡ Some gate → gate_name tree n ≡ gate.name
  gate-named n gate at = named-in (λ (gate : NamedGate). gate.name) tree.gates n gate at

  -- ---- it is a system

  within-more : (events gates more : ℕ) (ins : List Input) → gates ≤ more → AllByRecursion (IsWithin events gates) ins → AllByRecursion (IsWithin events more) ins
  within-more events gates more [] few all = tt
  within-more events gates more (inputs.Event n ∷ ins) few all = (all.0, within-more events gates more ins few all.1)
  within-more events gates more (inputs.Gate n ∷ ins) few all = (omega (arith, all.0, few), within-more events gates more ins few all.1)

  abbrev InRange : ℕ → FactInfo → Type 0
  InRange facts fact = in_range facts (length (map event_info tree.events)) fact.formula ≡ true

  gates-ranged : (facts : ℕ) (gates : List NamedGate) → length tree.gates ≤ facts → AllByRecursion (HasInputs (length tree.events) (length tree.gates)) gates → AllByRecursion (InRange facts) (map gate_fact gates)
  gates-ranged facts [] few all = tt
  gates-ranged facts (gate ∷ gates) few all = (
    kind-range facts (length (map event_info tree.events)) gate.kind gate.inputs
        (subst (λ events. AllByRecursion (IsWithin events facts) gate.inputs) (sym events-long) (within-more (length tree.events) (length tree.gates) facts gate.inputs few all.0)),
    gates-ranged facts gates few all.1,
  )

  all-append : {X : Type 0} (P : X → Type 0) (xs ys : List X) → AllByRecursion P xs → AllByRecursion P ys → AllByRecursion P (xs ++ ys)
  all-append P [] ys a b = b
  all-append P (x ∷ xs) ys a b = (a.0, all-append P xs ys a.1 b)

  top-ranged : (facts : ℕ) (top : Input) → IsWithin (length tree.events) (length tree.gates) top → AllByRecursion (InRange facts) (top_facts tree top)
  top-ranged facts (inputs.Gate n) inside = tt
  top-ranged facts (inputs.Event n) inside = (
    kind-range facts (length (map event_info tree.events)) kinds.Or (inputs.Event n ∷ []) (subst (λ events. n < events) (sym events-long) inside, tt),
    tt,
  )

  facts-named : map (λ (fact : FactInfo). fact.name) (map gate_fact tree.gates) ≡ gate_names
  facts-named = map-map (λ (fact : FactInfo). fact.name) gate_fact (λ (gate : NamedGate). gate.name) tree.gates (λ gate. refl)

  facts-differ : (top : Input) → IsWithin (length tree.events) (length tree.gates) top → NamesDiffer (gate_names ++ map (λ (fact : FactInfo). fact.name) (top_facts tree top))
  facts-differ (inputs.Gate n) inside = subst NamesDiffer (sym (nil gate_names)) (differ-front gate_names event_names named.names_differ)
    where
      nil : (xs : List (List ℕ)) → xs ++ [] ≡ xs
      nil [] = refl
      nil (x ∷ xs) = ap (λ ys. x ∷ ys) (nil xs)
  facts-differ (inputs.Event n) inside =
      differ-one gate_names (event_name tree n) (differ-front gate_names event_names named.names_differ)
      (λ i d fits same. differ-across gate_names event_names named.names_differ i n d fits (omega (arith, inside, event-names-long))
      (same ∙ event-at n ∙ get_or_default event_names n [] d (omega (arith, inside, event-names-long))))

  facts-few : length tree.gates ≤ length (map gate_fact tree.gates ++ top_facts tree tree.top)
  facts-few = omega (arith, length-append (map gate_fact tree.gates) (top_facts tree tree.top), length-map tree.gates gate_fact)

  pub tree-system : IsSystem (system_of tree)
  tree-system =
      let facts = map gate_fact tree.gates ++ top_facts tree tree.top in
      record {
        ranged = All-from_recursion (InRange (length facts)) facts
            (all-append (InRange (length facts)) (map gate_fact tree.gates) (top_facts tree tree.top) (gates-ranged (length facts) tree.gates facts-few named.inputs_in) (top-ranged (length facts) tree.top named.top_in));
        facts_named = subst NamesDiffer (sym (map-append (λ (fact : FactInfo). fact.name) (map gate_fact tree.gates) (top_facts tree tree.top) ∙ ap (λ names. names ++ map (λ (fact : FactInfo). fact.name) (top_facts tree tree.top)) facts-named))
            (facts-differ tree.top named.top_in);
        events_named = subst NamesDiffer (sym infos-named) (differ-back gate_names event_names named.names_differ);
      }

  -- the target is a fact
  pub target-within : target_of tree tree.top < length (system_of tree).facts
  target-within = by tree.top named.top_in
    where
      by : (top : Input) → IsWithin (length tree.events) (length tree.gates) top → target_of tree top < length (map gate_fact tree.gates ++ top_facts tree top)
      by (inputs.Gate n) inside = omega (arith, inside, length-append (map gate_fact tree.gates) [], length-map tree.gates gate_fact)
      by (inputs.Event n) inside = omega (arith, length-append (map gate_fact tree.gates) (top_facts tree (inputs.Event n)), length-map tree.gates gate_fact)

  -- ---- what it holds

  module _ (es : NumberSet) where
    abbrev given : NameSet
    given = names_of (system_of tree) es

    pub given-event : (n : ℕ) → n < length tree.events → given (event_name tree n) ≡ es n
    given-event n fits =
        ap given (event-at n ∙ ap (λ names. get_or names n []) (sym infos-named))
        ∙ has-own (λ (event : EventInfo). event.name) (map event_info tree.events) tree-system.events_named es n (omega (arith, fits, events-long))

    given-gate : (n : ℕ) → n < length tree.gates → given (gate_name tree n) ≡ false
    given-gate n fits =
        has-none (λ (event : EventInfo). event.name) (map event_info tree.events) es (gate_name tree n)
        (λ k inside same. differ-across gate_names event_names named.names_differ n k [] (omega (arith, fits, gate-names-long)) (omega (arith, inside, events-long, event-names-long))
        (sym (gate-at n) ∙ sym same ∙ ap (λ names. get_or names k []) infos-named))

    or-second : (a b : Bool) → a ≡ false → a || b ≡ b
    or-second true b e = absurd (false≢true (sym e))
    or-second false b e = refl

    or-first : (a b : Bool) → b ≡ false → a || b ≡ a
    or-first true b e = refl
    or-first false b e = e

    or-left : (a b : Bool) → a ≡ true → a || b ≡ true
    or-left true b e = refl
    or-left false b e = absurd (false≢true e)

    -- the names of the events of a set and of the gates of another
    abbrev both : NumberSet → NameSet
    both set name = given name || has_name (λ (gate : NamedGate). gate.name) tree.gates set name

    both-event : (set : NumberSet) (n : ℕ) → n < length tree.events → both set (event_name tree n) ≡ es n
    both-event set n fits =
        or-first (given (event_name tree n)) _
        (has-none (λ (gate : NamedGate). gate.name) tree.gates set (event_name tree n)
        (λ k inside same. differ-across gate_names event_names named.names_differ k n [] (omega (arith, inside, gate-names-long)) (omega (arith, fits, event-names-long)) (same ∙ event-at n)))
        ∙ given-event n fits

    both-gate : (set : NumberSet) (n : ℕ) → n < length tree.gates → both set (gate_name tree n) ≡ set n
    both-gate set n fits =
        or-second (given (gate_name tree n)) _ (given-gate n fits)
        ∙ ap (has_name (λ (gate : NamedGate). gate.name) tree.gates set) (gate-at n)
        ∙ has-own (λ (gate : NamedGate). gate.name) tree.gates (differ-front gate_names event_names named.names_differ) set n fits

    both-inputs : (set : NumberSet) (ins : List Input) → AllByRecursion (IsWithin (length tree.events) (length tree.gates)) ins → map (both set) (map (input_name tree) ins) ≡ map (input_true es set) ins
    both-inputs set [] inside = refl
    both-inputs set (inputs.Event n ∷ ins) inside = λ i. both-event set n inside.0 i ∷ both-inputs set ins inside.1 i
    both-inputs set (inputs.Gate n ∷ ins) inside = λ i. both-gate set n inside.0 i ∷ both-inputs set ins inside.1 i

    all-at : {X : Type 0} (P : X → Type 0) (xs : List X) → AllByRecursion P xs → (n : ℕ) (x : X) → slice_get xs n ≡ Some x → P x
    all-at P [] all n x at = cc
    all-at P (y ∷ xs) all zero x at = let same : y ≡ x = cc in subst P same all.0
    all-at P (y ∷ xs) all (suc n) x at = all-at P xs all.1 n x at

    all-made : {X Y : Type 0} (P : Y → Type 0) (f : X → Y) (xs : List X) → ((n : ℕ) (x : X) → slice_get xs n ≡ Some x → P (f x)) → AllByRecursion P (map f xs)
    all-made P f [] each = tt
    all-made P f (x ∷ xs) each = (each 0 x refl, all-made P f xs (λ n y at. each (suc n) y at))

    all-front : {X : Type 0} (P : X → Type 0) (xs ys : List X) → AllByRecursion P (xs ++ ys) → AllByRecursion P xs
    all-front P [] ys h = tt
    all-front P (x ∷ xs) ys h = (h.0, all-front P xs ys h.1)

    all-back : {X : Type 0} (P : X → Type 0) (xs ys : List X) → AllByRecursion P (xs ++ ys) → AllByRecursion P ys
    all-back P [] ys h = h
    all-back P (x ∷ xs) ys h = all-back P xs ys h.1

    mapped-at : {X Y : Type 0} (P : Y → Type 0) (f : X → Y) (xs : List X) → AllByRecursion P (map f xs) → (n : ℕ) (x : X) → slice_get xs n ≡ Some x → P (f x)
    mapped-at P f [] all n x at = cc
    mapped-at P f (y ∷ xs) all zero x at = let same : y ≡ x = cc in subst (λ z. P (f z)) same all.0
    mapped-at P f (y ∷ xs) all (suc n) x at = mapped-at P f xs all.1 n x at

    gate-inputs : (n : ℕ) (gate : NamedGate) → slice_get tree.gates n ≡ Some gate → AllByRecursion (IsWithin (length tree.events) (length tree.gates)) gate.inputs
    gate-inputs = all-at (HasInputs (length tree.events) (length tree.gates)) tree.gates named.inputs_in

    abbrev Says : NameSet → Line → Type 0
    Says set line = line_true given set line ≡ true → set (name_of line) ≡ true

    -- the fact at a number is marked where its formula is true
    marked : (set : NumberSet) (n : ℕ) (fact : FactInfo) → slice_get (system_of tree).facts n ≡ Some fact → truth es set fact.formula ≡ true → Has (member (applied (system_of tree) es set)) n
    marked set n fact at e = member-at (λ (fact : FactInfo). truth es set fact.formula) (system_of tree).facts n fact at ∙ e

    gate-formula : (set : NumberSet) (gate : NamedGate) → truth es set (gate_fact gate).formula ≡ kind_true gate.kind (map (input_true es set) gate.inputs)
    gate-formula set gate = kind-truth es set gate.kind gate.inputs

    -- a closed set of facts has a gate that is true
    closed-gate : (set : NumberSet) → IsClosed (system_of tree) es set → (n : ℕ) (gate : NamedGate) → slice_get tree.gates n ≡ Some gate → kind_true gate.kind (map (input_true es set) gate.inputs) ≡ true → set n ≡ true
    closed-gate set closed n gate at e = closed n (marked set n (gate_fact gate) (made-at gate_fact tree.gates (top_facts tree tree.top) n gate at) (gate-formula set gate ∙ e))

    -- where the text is true, each closed set of facts has the target
    holds-from-text : Tells (tree_galileo tree) given → Holds (system_of tree) es (target_of tree tree.top)
    holds-from-text tells set closed =
        at_top tree.top refl named.top_in
        (tells (both set)
        (all-append (Says (both set)) (map (gate_line tree) tree.gates) (map event_line tree.events)
        (all-made (Says (both set)) (gate_line tree) tree.gates (λ n gate at e.
        ap (both set) (sym (gate-named n gate at)) ∙ both-gate set n (slice_get_within tree.gates n gate at)
        ∙ closed-gate set closed n gate at (ap (kind_true gate.kind) (sym (both-inputs set gate.inputs (gate-inputs n gate at))) ∙ e)))
        (all-made (Says (both set)) event_line tree.events (λ n event at e. or-left (given event.name) _ e))))
      where
        at_top : (top : Input) → tree.top ≡ top → IsWithin (length tree.events) (length tree.gates) top → both set (input_name tree tree.top) ≡ true → set (target_of tree tree.top) ≡ true
        at_top (inputs.Gate n) is inside e = ap (λ t. set (target_of tree t)) is ∙ sym (both-gate set n inside) ∙ ap (λ t. both set (input_name tree t)) (sym is) ∙ e
        at_top (inputs.Event n) is inside e =
            let true_n : es n ≡ true = sym (both-event set n inside) ∙ ap (λ t. both set (input_name tree t)) (sym is) ∙ e in
            ap (λ t. set (target_of tree t)) is
            ∙ closed (length tree.gates)
            (marked set (length tree.gates) (top_fact n) (subst (λ t. slice_get (map gate_fact tree.gates ++ top_facts tree t) (length tree.gates) ≡ Some (top_fact n)) (sym is) (last tree.gates (top_fact n)))
            (kind-truth es set kinds.Or (inputs.Event n ∷ []) ∙ or-left (es n) false true_n))
          where
            top_fact : ℕ → FactInfo
            top_fact n = record { name = event_name tree n; owner = 0; formula = kind_formula kinds.Or (map input_formula (inputs.Event n ∷ [])) }

            last : (gates : List NamedGate) (fact : FactInfo) → slice_get (map gate_fact gates ++ fact ∷ []) (length gates) ≡ Some fact
            last [] fact = refl
            last (gate ∷ gates) fact = last gates fact

    module _ (set : NameSet) (closed : IsClosedText (tree_galileo tree).lines given set) where
      -- the facts whose names are in a set of names
      abbrev positions : NumberSet
      positions n = set (get_or (map (λ (fact : FactInfo). fact.name) (system_of tree).facts) n [])

      position-gate : (n : ℕ) (gate : NamedGate) → slice_get tree.gates n ≡ Some gate → positions n ≡ set gate.name
      position-gate n gate at = ap set (named-here (λ (fact : FactInfo). fact.name) (system_of tree).facts n (gate_fact gate) (made-at gate_fact tree.gates (top_facts tree tree.top) n gate at))

      gate-says : (n : ℕ) (gate : NamedGate) → slice_get tree.gates n ≡ Some gate → Says set (gate_line tree gate)
      gate-says = mapped-at (Says set) (gate_line tree) tree.gates (all-front (Says set) (map (gate_line tree) tree.gates) (map event_line tree.events) closed)

      event-says : (n : ℕ) (event : NamedEvent) → slice_get tree.events n ≡ Some event → Says set (event_line event)
      event-says = mapped-at (Says set) event_line tree.events (all-back (Says set) (map (gate_line tree) tree.gates) (map event_line tree.events) closed)

      has-event : (n : ℕ) → n < length tree.events → es n ≡ true → set (event_name tree n) ≡ true
      has-event n inside e =
          let (event, at) = item-there tree.events n inside in
          let name : event_name tree n ≡ event.name = named-in (λ (event : NamedEvent). event.name) tree.events n event at in
          ap set name ∙ event-says n event at (ap given (sym name) ∙ given-event n inside ∙ e)

      inputs-below : (ins : List Input) → AllByRecursion (IsWithin (length tree.events) (length tree.gates)) ins → Below (map (input_true es positions) ins) (map set (map (input_name tree) ins))
      inputs-below [] inside = tt
      inputs-below (inputs.Event n ∷ ins) inside = (has-event n inside.0, inputs-below ins inside.1)
      inputs-below (inputs.Gate n ∷ ins) inside =
          let (gate, at) = item-there tree.gates n inside.0 in
          ((λ e. ap set (gate-named n gate at) ∙ sym (position-gate n gate at) ∙ e), inputs-below ins inside.1)

      positions-closed : IsClosed (system_of tree) es positions
      positions-closed n e =
          let (fact, at, is_true) = member-has (λ (fact : FactInfo). truth es positions fact.formula) (system_of tree).facts n e in
          by fact at is_true (made-from gate_fact tree.gates (top_facts tree tree.top) n fact at)
        where
          last : (fact : FactInfo) (top : Input) (k : ℕ) → IsWithin (length tree.events) (length tree.gates) top → slice_get (top_facts tree top) k ≡ Some fact → truth es positions fact.formula ≡ true → set fact.name ≡ true
          last fact (inputs.Gate m) k inside at h = cc
          last fact (inputs.Event m) zero inside at h =
              let same : record { name = event_name tree m; owner = 0; formula = kind_formula kinds.Or (map input_formula (inputs.Event m ∷ [])) } ≡ fact = cc in
              let named : event_name tree m ≡ fact.name = ap (λ (f : FactInfo). f.name) same in
              let true_m : es m || false ≡ true = sym (kind-truth es positions kinds.Or (inputs.Event m ∷ [])) ∙ ap (λ (f : FactInfo). truth es positions f.formula) same ∙ h in
              ap set (sym named) ∙ has-event m inside (only (es m) true_m)
            where
              only : (b : Bool) → b || false ≡ true → b ≡ true
              only true h = refl
              only false h = h
          last fact (inputs.Event m) (suc k) inside at h = cc

          by : (fact : FactInfo) → slice_get (system_of tree).facts n ≡ Some fact → truth es positions fact.formula ≡ true → Made gate_fact tree.gates (top_facts tree tree.top) n fact → positions n ≡ true
          by fact at is_true (of_one gate here same) =
              position-gate n gate here
              ∙ gate-says n gate here (kind-below gate.kind _ _ (inputs-below gate.inputs (gate-inputs n gate here)) (sym (gate-formula positions gate) ∙ ap (λ (f : FactInfo). truth es positions f.formula) same ∙ is_true))
          by fact at is_true (behind k number here) =
              ap set (named-here (λ (fact : FactInfo). fact.name) (system_of tree).facts n fact at) ∙ last fact tree.top k named.top_in here is_true

    -- where the target holds, each closed set of names has the top
    text-from-holds : Holds (system_of tree) es (target_of tree tree.top) → Tells (tree_galileo tree) given
    text-from-holds holds set closed = at_top tree.top refl named.top_in (holds (positions set closed) (positions-closed set closed))
      where
        at_top : (top : Input) → tree.top ≡ top → IsWithin (length tree.events) (length tree.gates) top → positions set closed (target_of tree tree.top) ≡ true → set (input_name tree tree.top) ≡ true
        at_top (inputs.Gate n) is inside e =
            let (gate, at) = item-there tree.gates n inside in
            ap (λ t. set (input_name tree t)) is ∙ ap set (gate-named n gate at) ∙ sym (position-gate set closed n gate at) ∙ ap (λ t. positions set closed (target_of tree t)) (sym is) ∙ e
        at_top (inputs.Event n) is inside e =
            ap (λ t. set (input_name tree t)) is
            ∙ ap set (sym (last tree.gates (event_name tree n)))
            ∙ ap (λ t. set (get_or (map (λ (fact : FactInfo). fact.name) (map gate_fact tree.gates ++ top_facts tree t)) (length tree.gates) [])) (sym is)
            ∙ ap (λ t. positions set closed (target_of tree t)) (sym is) ∙ e
          where
            last : (gates : List NamedGate) (name : List ℕ) → get_or (map (λ (fact : FactInfo). fact.name) (map gate_fact gates ++ top_facts tree (inputs.Event n))) (length gates) [] ≡ event_name tree n
            last [] name = refl
            last (gate ∷ gates) name = last gates name

    pub system-truth : Tells (tree_galileo tree) given ↔ Holds (system_of tree) es (target_of tree tree.top)
    system-truth = (holds-from-text, text-from-holds)
