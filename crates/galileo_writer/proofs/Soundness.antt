-- The text of a tree is sound: each name has one line, and what a gate names has one.
use Rattle.std.proofs.Common.{ℕ, zero, suc, ◌+◌, ◌-◌, ◌≡◌, ◌≢◌, ◌<◌, ◌≤◌, ◌⊎◌, true, List, [], ◌∷◌, ◌++◌, length, map, get_or, slice_get, AllPairs, All, Contains, Some, inl, inr, ⊎_elim, ap, ◌∙◌, sym, subst, refl, arith, length-append}
use lib.ListN.{length-map}
use Rattle.std.proofs.lemmas.Bool.{eq-eqb}
use Rattle.std.proofs.lemmas.Bool.{cases_order}
use Rattle.std.proofs.lemmas.List.{get_or-append_right, get_or_append_left, get_or-map, get_or_default}
use Rattle.std.proofs.lemmas.List.Elements.{Contains-get_or}
use Rattle.std.proofs.lemmas.List.Kept.{AllPairs-cons, AllPairs-filter}
use Rattle.std.specs.List.{AllByRecursion, list_any, range_with_len}
use Rattle.fault_system.specs.Systems.{System, IsSystem, NamesDiffer, event_name}
use Rattle.fault_system.proofs.Elements.{In, In-back, In-contains, In-front, In-mapped, contains_In}
use Rattle.property_reader.specs.declared.rate.Rate.{Rate}
use Rattle.round_gates.specs.declared.tree.Gate.{Gate}
use Rattle.round_gates.specs.declared.tree.Input.{Input}
use Rattle.round_gates.specs.declared.tree.Input.TheVariants as inputs
use Rattle.round_gates.specs.declared.tree.Tree.{Tree}
use Rattle.round_gates.specs.inner.Targets.{IsWellMade, IsWithin}
use Rattle.round_gates.specs.Trees.{InputsOnce, is_event}
use Rattle.galileo_writer.specs.Galileo.{Line}
use Rattle.galileo_writer.specs.Sound.{HasInputLines, HasLine, IsSound}
use Rattle.galileo_writer.specs.Truth.{name_of}
use Rattle.galileo_writer.specs.TreeText.{event_line, gate_line, gate_name, input_name, name_at, tree_galileo}
use Rattle.galileo_writer.specs.inner.TreeText.{HasTextNames}
use Rattle.galileo_writer.proofs.Names.{event-or-gate, item-there, named-here}
use Rattle.galileo_writer.proofs.TreeNames.{event-within, gate-at-name, gates-differ, good, in-tree, one-event, one-input, or-right, or-true}

-- two lists of which no two items are alike, nor one of the first and one of the second
pairs-append : {X : Type 0} (R : X → X → Type 0) (xs ys : List X) → AllPairs R xs → AllPairs R ys → ((i j : ℕ) (d : X) → i < length xs → j < length ys → R (get_or xs i d) (get_or ys j d)) → AllPairs R (xs ++ ys)
pairs-append {X} R xs ys a b apart i j d less fits = by (cases_order j (length xs)) (cases_order i (length xs))
  where
    long : length (xs ++ ys) ≡ length xs + length ys
    long = length-append xs ys

    front : (k : ℕ) → k < length xs → get_or (xs ++ ys) k d ≡ get_or xs k d
    front k h = get_or_append_left xs ys d k h

    back : (k : ℕ) → length xs ≤ k → get_or (xs ++ ys) k d ≡ get_or ys (k - length xs) d
    back k h = get_or-append_right xs ys (length xs) k d refl h

    both : (x y u v : X) → x ≡ u → y ≡ v → R u v → R x y
    both x y u v e f r = subst (λ z. R z y) (sym e) (subst (R u) (sym f) r)

    behind : length xs ≤ j → (i ≡ length xs) ⊎ ((i < length xs) ⊎ (length xs < i)) → R (get_or (xs ++ ys) i d) (get_or (xs ++ ys) j d)
    behind past cases = ⊎_elim
        (λ at. both _ _ _ _ (back i (omega arith)) (back j past) (b (i - length xs) (j - length xs) d (omega arith) (omega (arith, long))))
        (λ other. ⊎_elim
        (λ before. both _ _ _ _ (front i before) (back j past) (apart i (j - length xs) d before (omega (arith, long))))
        (λ later. both _ _ _ _ (back i (omega arith)) (back j past) (b (i - length xs) (j - length xs) d (omega arith) (omega (arith, long)))) other)
        cases

    by : (j ≡ length xs) ⊎ ((j < length xs) ⊎ (length xs < j)) → (i ≡ length xs) ⊎ ((i < length xs) ⊎ (length xs < i)) → R (get_or (xs ++ ys) i d) (get_or (xs ++ ys) j d)
    by second first = ⊎_elim (λ at. behind (omega arith) first) (λ other. ⊎_elim
        (λ before. both _ _ _ _ (front i (omega arith)) (front j before) (a i j d less before))
        (λ later. behind (omega arith) first) other) second

map-append : {X Y : Type 0} (f : X → Y) (xs ys : List X) → map f (xs ++ ys) ≡ map f xs ++ map f ys
map-append f [] ys = refl
map-append f (x ∷ xs) ys = ap (λ zs. f x ∷ zs) (map-append f xs ys)

range-rises : (low count : ℕ) → AllPairs (λ a b. a < b) (range_with_len low count)
range-rises low zero = λ i j d less fits. absurd (omega arith)
range-rises low (suc count) = AllPairs-cons (λ a b. a < b) low (range_with_len (low + 1) count) (above (low + 1) low count (omega arith)) (range-rises (low + 1) count)
  where
    above : (from base count : ℕ) → base < from → All (λ n. base < n) (range_with_len from count)
    above from base zero less k d fits = absurd (omega arith)
    above from base (suc count) less zero d fits = less
    above from base (suc count) less (suc k) d fits = above (from + 1) base count (omega arith) k d (omega arith)

module _ (system : System) (is_system : IsSystem system) (names : HasTextNames system) (tree : Tree) (made : IsWellMade system tree) (rates : List Rate) where
  abbrev lines : List Line
  lines = map (gate_line system tree.gates) tree.gates ++ map (event_line system rates) tree.events

  abbrev line_names : List (List ℕ)
  line_names = map (gate_name system) tree.gates ++ map (event_name system) tree.events

  gates-named : (gates all : List Gate) → map name_of (map (gate_line system all) gates) ≡ map (gate_name system) gates
  gates-named [] all = refl
  gates-named (g ∷ gates) all = ap (λ ns. gate_name system g ∷ ns) (gates-named gates all)

  events-named : (events : List ℕ) → map name_of (map (event_line system rates) events) ≡ map (event_name system) events
  events-named [] = refl
  events-named (e ∷ events) = ap (λ ns. event_name system e ∷ ns) (events-named events)

  all-named : map name_of lines ≡ line_names
  all-named =
      map-append name_of (map (gate_line system tree.gates) tree.gates) (map (event_line system rates) tree.events)
      ∙ ap (λ ns. ns ++ map name_of (map (event_line system rates) tree.events)) (gates-named tree.gates tree.gates)
      ∙ ap (λ ns. map (gate_name system) tree.gates ++ ns) (events-named tree.events)

  -- the event at a position of the tree's events
  event-in : (i : ℕ) (d : ℕ) → i < length tree.events → get_or tree.events i d < length system.events
  event-in i d fits = event-within system is_system names tree made (get_or tree.events i d) (In-contains (get_or tree.events i d) tree.events (Contains-get_or tree.events i d fits))

  events-rise : AllPairs (λ a b. a < b) tree.events
  events-rise = subst (AllPairs (λ a b. a < b)) (sym made.events) (AllPairs-filter (λ a b. a < b) _ (range_with_len 0 (length system.events)) (range-rises 0 (length system.events)))

  event-at : (i : ℕ) (d : List ℕ) → i < length tree.events → get_or (map (event_name system) tree.events) i d ≡ event_name system (get_or tree.events i 0)
  event-at i d fits = get_or-map (event_name system) tree.events i 0 d fits

  events-differ : NamesDiffer (map (event_name system) tree.events)
  events-differ i j d less fits e =
      let long : length (map (event_name system) tree.events) ≡ length tree.events = length-map tree.events (event_name system) in
      let rises : get_or tree.events i 0 < get_or tree.events j 0 = events-rise i j 0 less (omega arith) in
      let same : get_or tree.events i 0 ≡ get_or tree.events j 0
      = one-event system is_system names tree made (get_or tree.events i 0) (get_or tree.events j 0) (event-in i 0 (omega arith)) (event-in j 0 (omega arith)) (sym (event-at i d (omega arith)) ∙ e ∙ event-at j d (omega arith)) in
      omega arith

  names-differ : NamesDiffer line_names
  names-differ =
      pairs-append (λ a b. a ≢ b) (map (gate_name system) tree.gates) (map (event_name system) tree.events) (gates-differ system is_system names tree made) events-differ
      (λ i j d here there e.
      let gates_long : length (map (gate_name system) tree.gates) ≡ length tree.gates = length-map tree.gates (gate_name system) in
      let events_long : length (map (event_name system) tree.events) ≡ length tree.events = length-map tree.events (event_name system) in
      let gate = item-there tree.gates i (omega arith) in
      let to_empty : get_or (map (gate_name system) tree.gates) i d ≡ get_or (map (gate_name system) tree.gates) i [] = get_or_default (map (gate_name system) tree.gates) i d [] here in
      event-or-gate system names (get_or tree.events j 0) (event-in j 0 (omega arith)) gate.0
      (sym (event-at j d (omega arith)) ∙ sym e ∙ to_empty ∙ named-here (gate_name system) tree.gates i gate.0 gate.1))

  gate-lined : (n : ℕ) → n < length tree.gates → In (name_at system tree.gates n) line_names
  gate-lined n fits =
      let gate = item-there tree.gates n fits in
      In-front (name_at system tree.gates n) (map (gate_name system) tree.gates) (map (event_name system) tree.events)
      (subst (λ (name : List ℕ). In name (map (gate_name system) tree.gates)) (sym (gate-at-name system is_system names tree made n gate.0 gate.1)) (In-mapped (gate_name system) gate.0 tree.gates (at tree.gates n gate.0 gate.1)))
    where
      at : (gates : List Gate) (k : ℕ) (gate : Gate) → slice_get gates k ≡ Some gate → In gate gates
      at [] k gate e = cc
      at (g ∷ gates) zero gate e = let same : g ≡ gate = cc in inl same
      at (g ∷ gates) (suc k) gate e = inr (at gates k gate e)

  event-lined : (event : ℕ) → In event tree.events → In (event_name system event) line_names
  event-lined event i = In-back (event_name system event) (map (gate_name system) tree.gates) (map (event_name system) tree.events) (In-mapped (event_name system) event tree.events i)

  has-line : (name : List ℕ) → In name line_names → HasLine lines name
  has-line name i = subst (λ (ns : List (List ℕ)). Contains ns name) (sym all-named) (contains_In name line_names i)

  inputs-lined : (n : ℕ) (gate : Gate) → slice_get tree.gates n ≡ Some gate → (ins : List Input) → AllByRecursion (IsWithin (length system.events) (length tree.gates)) ins
      → ((k : ℕ) → list_any (is_event k) ins ≡ true → list_any (is_event k) gate.inputs ≡ true) → AllByRecursion (HasLine lines) (map (input_name system tree.gates) ins)
  inputs-lined n gate at [] inside part = tt
  inputs-lined n gate at (inputs.Event k ∷ ins) inside part = (
    has-line (event_name system k) (event-lined k (in-tree system is_system names tree made k inside.0 n gate at (part k (or-true _ (list_any (is_event k) ins) (eq-eqb k k refl))))),
    inputs-lined n gate at ins inside.1 (λ j e. part j (or-right _ (list_any (is_event j) ins) e)),
  )
  inputs-lined n gate at (inputs.Gate k ∷ ins) inside part = (has-line (name_at system tree.gates k) (gate-lined k inside.0), inputs-lined n gate at ins inside.1 part)

  -- inputs that differ have names that differ
  names-once : (ins : List Input) → AllByRecursion (IsWithin (length system.events) (length tree.gates)) ins → InputsOnce ins → NamesDiffer (map (input_name system tree.gates) ins)
  names-once [] inside once = λ i j d less fits. absurd (omega arith)
  names-once (x ∷ ins) inside once = AllPairs-cons (λ a b. a ≢ b) (input_name system tree.gates x) (map (input_name system tree.gates) ins) (others ins inside.1 once.0) (names-once ins inside.1 once.1)
    where
      others : (rest : List Input) → AllByRecursion (IsWithin (length system.events) (length tree.gates)) rest → AllByRecursion (λ y. x ≢ y) rest → All (λ name. input_name system tree.gates x ≢ name) (map (input_name system tree.gates) rest)
      others [] within differ k d fits = absurd (omega arith)
      others (y ∷ rest) within differ zero d fits = λ e. differ.0 (one-input system is_system names tree made x y inside.0 within.0 e)
      others (y ∷ rest) within differ (suc k) d fits = others rest within.1 differ.1 k d (omega arith)

  gates-lined : (ys : List Gate) → ((n : ℕ) (gate : Gate) → slice_get ys n ≡ Some gate → HasInputLines lines (gate_line system tree.gates gate)) → AllByRecursion (HasInputLines lines) (map (gate_line system tree.gates) ys)
  gates-lined [] each = tt
  gates-lined (y ∷ ys) each = (each 0 y refl, gates-lined ys (λ n gate at. each (suc n) gate at))

  events-lined : (events : List ℕ) → AllByRecursion (HasInputLines lines) (map (event_line system rates) events)
  events-lined [] = tt
  events-lined (e ∷ events) = (tt, events-lined events)

  all-lined : (xs ys : List Line) → AllByRecursion (HasInputLines lines) xs → AllByRecursion (HasInputLines lines) ys → AllByRecursion (HasInputLines lines) (xs ++ ys)
  all-lined [] ys a b = b
  all-lined (x ∷ xs) ys a b = (a.0, all-lined xs ys a.1 b)

  pub text-sound : IsSound (tree_galileo system tree rates)
  text-sound =
      record {
        one_line = subst NamesDiffer (sym all-named) names-differ;
        top = has-line (name_at system tree.gates tree.top) (gate-lined tree.top made.top_in);
        inputs = all-lined (map (gate_line system tree.gates) tree.gates) (map (event_line system rates) tree.events)
            (gates-lined tree.gates (λ n gate at. let is = good system is_system names tree made n gate at in (inputs-lined n gate at gate.inputs is.inputs_in (λ k h. h), names-once gate.inputs is.inputs_in is.inputs_once)))
            (events-lined tree.events);
      }
