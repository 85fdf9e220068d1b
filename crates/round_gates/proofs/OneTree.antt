-- A target has one tree at most.
use Rattle.std.proofs.Common.{ℕ, zero, suc, ◌+◌, ◌≡◌, ◌<◌, Bool, true, false, ◌||◌, ◌==◌, List, [], ◌∷◌, length, map, get_or, slice_get, Some, ⊎_elim, ap, ◌∙◌, sym, subst, refl, arith}
use Rattle.std.proofs.lemmas.Bool.{false≢true, eqb-true, eq-eqb, or_cases, cases_order}
use Rattle.std.proofs.lemmas.Option.{slice_get_cases}
use Rattle.std.specs.List.{AllByRecursion}
use Rattle.std.specs.Ordering.{ordering_reverse}
use Rattle.std.specs.declared.cmp.Ordering.TheVariants.{Less, Greater}
use lib.ListN.{length-map}
use Rattle.fault_system.specs.Systems.{System, IsSystem}
use Rattle.plain_values.specs.declared.refusal.Refusal.{Refusal}
use Rattle.backward_slice.specs.declared.parts.Slice.{Slice}
use Rattle.backward_slice.proofs.OneSlice.{one_slice}
use Rattle.dependency_blocks.specs.Blocks.{BlockNumbers, IsBlocks}
use Rattle.round_gates.specs.declared.node.GateKey.{GateKey}
use Rattle.round_gates.specs.declared.node.Line.{Line}
use Rattle.round_gates.specs.declared.node.Node.{Node}
use Rattle.round_gates.specs.declared.node.Node.TheVariants as nodes
use Rattle.round_gates.specs.declared.tree.Gate.{Gate}
use Rattle.round_gates.specs.declared.tree.Input.{Input}
use Rattle.round_gates.specs.declared.tree.Input.TheVariants as inputs
use Rattle.round_gates.specs.declared.tree.Tree.{Tree}
use Rattle.round_gates.specs.Nodes.{same_key, has_node}
use Rattle.round_gates.specs.inner.Reached.{has_key}
use Rattle.round_gates.specs.Staged.{all_places, most_places}
use Rattle.round_gates.specs.Stages.{last_node}
use Rattle.round_gates.specs.Targets.{HasLargeTree, IsTreeFor}
use Rattle.round_gates.specs.Trees.{HasInputGates, IsGateTree, IsTreeOf, NamesRise, events_in, has_gate, key_cmp, is_gate, key_in, key_of, line_of, node_of}
use Rattle.round_gates.specs.inner.Trees.{place_of}
use Rattle.round_gates.proofs.Basics.{key_same, or_left, or_right}
use Rattle.round_gates.proofs.GatePlaces.{key-inner, one-gate}
use Rattle.round_gates.proofs.Names.{has-at, keys_total, place-in}
use Rattle.round_gates.proofs.OneNumbering.{last-same, places-same, tree-moves}
use Rattle.round_gates.proofs.Rules.{key_exact}
use Rattle.round_gates.proofs.TreeTruth.{key-there}
use Rattle.round_gates.proofs.Wholes.{target-inside}

-- ---- names that rise

-- each name comes before all later ones
abbrev Rising : List GateKey → Type 0
Rising [] = Unit {0}
Rising (key ∷ keys) = AllByRecursion (λ later. key_cmp key later ≡ Less) keys × Rising keys

not-itself : (a b : GateKey) → key_cmp a b ≡ Less → a ≡ b → ⊥
not-itself a b less same =
    let turned : Less ≡ ordering_reverse (key_cmp b a) = sym less ∙ keys_total.antisymm a b in
    let also : key_cmp b a ≡ Less = ap (λ (k : GateKey). key_cmp k a) (sym same) ∙ ap (key_cmp a) same ∙ less in
    let end : Less ≡ Greater = turned ∙ ap ordering_reverse also in cc

not-both : (a b : GateKey) → key_cmp a b ≡ Less → key_cmp b a ≡ Less → ⊥
not-both a b less more =
    let end : Less ≡ Greater = sym less ∙ keys_total.antisymm a b ∙ ap ordering_reverse more in cc

all-later : (key other : GateKey) → key_cmp key other ≡ Less → (keys : List GateKey) → AllByRecursion (λ later. key_cmp other later ≡ Less) keys → AllByRecursion (λ later. key_cmp key later ≡ Less) keys
all-later key other less [] all = tt
all-later key other less (k ∷ keys) all = (keys_total.trans key other k less all.0, all-later key other less keys all.1)

rising : (keys : List GateKey) → NamesRise keys → Rising keys
rising [] rise = tt
rising (key ∷ []) rise = (tt, tt)
rising (key ∷ other ∷ keys) rise =
    let first : key_cmp key other ≡ Less = rise 0 key (omega arith) in
    let rest : Rising (other ∷ keys) = rising (other ∷ keys) (λ n d fits. let next : suc n + 1 ≡ suc (n + 1) = omega arith in ap (λ k. key_cmp (get_or (other ∷ keys) n d) (get_or (key ∷ other ∷ keys) k d)) (sym next) ∙ rise (suc n) d (omega arith)) in
    ((first, all-later key other first keys rest.0), rest)

later-at : (key : GateKey) (keys : List GateKey) → AllByRecursion (λ later. key_cmp key later ≡ Less) keys → (n : ℕ) (d : GateKey) → n < length keys → key_cmp key (get_or keys n d) ≡ Less
later-at key [] all n d fits = absurd (omega arith)
later-at key (k ∷ keys) all zero d fits = all.0
later-at key (k ∷ keys) all (suc n) d fits = later-at key keys all.1 n d (omega arith)

rising-apart : (keys : List GateKey) → Rising keys → (n m : ℕ) (d : GateKey) → n < m → m < length keys → get_or keys n d ≡ get_or keys m d → ⊥
rising-apart [] rise n m d less fits e = absurd (omega arith)
rising-apart (k ∷ keys) rise n zero d less fits e = absurd (omega arith)
rising-apart (k ∷ keys) rise zero (suc m) d less fits e = not-itself k (get_or keys m d) (later-at k keys rise.0 m d (omega arith)) e
rising-apart (k ∷ keys) rise (suc n) (suc m) d less fits e = rising-apart keys rise.1 n m d (omega arith) (omega arith) e

-- names that rise differ
pub one-position : (keys : List GateKey) → NamesRise keys → (n m : ℕ) (d : GateKey) → n < length keys → m < length keys → get_or keys n d ≡ get_or keys m d → n ≡ m
one-position keys rise n m d here there e =
    ⊎_elim (λ same. same) (λ apart. ⊎_elim (λ less. absurd (rising-apart keys (rising keys rise) n m d less there e)) (λ more. absurd (rising-apart keys (rising keys rise) m n d more here (sym e))) apart) (cases_order n m)

has-in : (key : GateKey) (keys : List GateKey) (P : GateKey → Type 0) → AllByRecursion P keys → has_key keys key ≡ true → P key
has-in key [] P all e = absurd (false≢true e)
has-in key (k ∷ keys) P all e = ⊎_elim (λ here. subst P (sym (key_exact key k here)) all.0) (λ there. has-in key keys P all.1 there) (or_cases (same_key key k) (has_key keys key) e)

not-here : (a b : Bool) → (a ≡ true → ⊥) → a || b ≡ true → b ≡ true
not-here true b n e = absurd (n refl)
not-here false b n e = e

-- rising names that are the same names are the same list
one-rising : (xs ys : List GateKey) → Rising xs → Rising ys → ((k : GateKey) → has_key xs k ≡ true → has_key ys k ≡ true) → ((k : GateKey) → has_key ys k ≡ true → has_key xs k ≡ true) → xs ≡ ys
one-rising [] [] r s f g = refl
one-rising [] (y ∷ ys) r s f g = absurd (false≢true (g y (or_left (same_key y y) (has_key ys y) (key_same y))))
one-rising (x ∷ xs) [] r s f g = absurd (false≢true (f x (or_left (same_key x x) (has_key xs x) (key_same x))))
one-rising (x ∷ xs) (y ∷ ys) r s f g =
    let rest : xs ≡ ys
    = one-rising xs ys r.1 s.1
    (λ k e. not-here (same_key k y) (has_key ys k) (λ h. not-itself x k (has-in k xs (λ l. key_cmp x l ≡ Less) r.0 e) (same ∙ sym (key_exact k y h))) (f k (or_right (same_key k x) (has_key xs k) e)))
    (λ k e. not-here (same_key k x) (has_key xs k) (λ h. not-itself y k (has-in k ys (λ l. key_cmp y l ≡ Less) s.0 e) (sym same ∙ sym (key_exact k x h))) (g k (or_right (same_key k y) (has_key ys k) e))) in
    λ i. same i ∷ rest i
  where
    same : x ≡ y
    same =
        ⊎_elim (λ e. key_exact x y e)
        (λ later. ⊎_elim (λ e. sym (key_exact y x e))
        (λ after. absurd (not-both y x (has-in x ys (λ k. key_cmp y k ≡ Less) s.0 later) (has-in y xs (λ k. key_cmp x k ≡ Less) r.0 after)))
        (or_cases (same_key y x) (has_key xs y) (g y (or_left (same_key y y) (has_key ys y) (key_same y)))))
        (or_cases (same_key x y) (has_key ys x) (f x (or_left (same_key x x) (has_key xs x) (key_same x))))

-- ---- trees of one top

abbrev no_key : GateKey
no_key = record { fact = 0; stage = 0; place = 0 }

-- an input that is a gate is a node with the name at its position
has-named : (gates : List Gate) (ins : List Input) (m : ℕ) → has_gate ins m ≡ true → has_node (map (node_of gates) ins) (nodes.Gate (key_in gates m)) ≡ true
has-named gates [] m e = absurd (false≢true e)
has-named gates (inputs.Event n ∷ ins) m e = has-named gates ins m e
has-named gates (inputs.Gate n ∷ ins) m e =
    ⊎_elim
    (λ here. or_left (same_key (key_in gates m) (key_in gates n)) _ (ap (λ (k : ℕ). same_key (key_in gates m) (key_in gates k)) (eqb-true n m here) ∙ key_same (key_in gates m)))
    (λ there. or_right (same_key (key_in gates m) (key_in gates n)) _ (has-named gates ins m there))
    (or_cases (n == m) (has_gate ins m) e)

named-has : (gates : List Gate) (ins : List Input) (key : GateKey) → has_node (map (node_of gates) ins) (nodes.Gate key) ≡ true → (m : ℕ) × (has_gate ins m ≡ true) × (key ≡ key_in gates m)
named-has gates [] key e = absurd (false≢true e)
named-has gates (inputs.Event n ∷ ins) key e = named-has gates ins key e
named-has gates (inputs.Gate n ∷ ins) key e =
    ⊎_elim (λ here. (n, or_left (n == n) (has_gate ins n) (eq-eqb n n refl), key_exact key (key_in gates n) here))
    (λ there. let r = named-has gates ins key there in (r.0, or_right (n == r.0) (has_gate ins r.0) r.1, r.2))
    (or_cases (same_key key (key_in gates n)) (has_node (map (node_of gates) ins) (nodes.Gate key)) e)

abbrev names : Tree → List GateKey
names tree = map key_of tree.gates

names-long : (tree : Tree) → length (names tree) ≡ length tree.gates
names-long tree = length-map tree.gates key_of

-- a gate at a position
gate-there : (gates : List Gate) (n : ℕ) → n < length gates → (gate : Gate) × (slice_get gates n ≡ Some gate)
gate-there gates n fits = ⊎_elim (λ (gate, inside, at, same). (gate, at)) (λ past. absurd (omega (arith, past.0))) (slice_get_cases gates n).1

same-gates : (xs ys : List Gate) → map key_of xs ≡ map key_of ys → ((n : ℕ) (x y : Gate) → slice_get xs n ≡ Some x → slice_get ys n ≡ Some y → x ≡ y) → xs ≡ ys
same-gates [] [] e each = refl
same-gates [] (y ∷ ys) e each = cc
same-gates (x ∷ xs) [] e each = cc
same-gates (x ∷ xs) (y ∷ ys) e each = let tails : map key_of xs ≡ map key_of ys = cc in λ i. each 0 x y refl refl i ∷ same-gates xs ys tails (λ n a b s t. each (suc n) a b s t) i

module _ (system : System) (is_system : IsSystem system) (numbers : BlockNumbers) (top : GateKey) where
  -- an input of a gate of one tree is named by the gate of the other tree that has the gate's name
  follow : (a b : Tree) → IsGateTree system numbers top a → IsGateTree system numbers top b → (k j m : ℕ) (gate other : Gate) → slice_get a.gates k ≡ Some gate → slice_get b.gates j ≡ Some other → key_of gate ≡ key_of other
      → has_gate gate.inputs m ≡ true → has_key (names b) (key_in a.gates m) ≡ true
  follow a b first second k j m gate other at there same input =
      let lines : line_of a.gates gate ≡ line_of b.gates other = one-gate system is_system numbers (line_of a.gates gate) (line_of b.gates other) (first.gates_are k gate at) (second.gates_are j other there) same in
      let r = named-has b.gates other.inputs (key_in a.gates m) (ap (λ (l : Line). has_node l.inputs (nodes.Gate (key_in a.gates m))) (sym lines) ∙ has-named a.gates gate.inputs m input) in
      let inside = second.inputs_in j r.0 other there r.1 in
      ap (has_key (names b)) r.2 ∙ has-at (names b) r.0 no_key (omega (arith, names-long b))

  -- a name that a tree has is that of a gate
  gate-of : (b : Tree) (key : GateKey) → has_key (names b) key ≡ true → (j : ℕ) × (gate : Gate) × (slice_get b.gates j ≡ Some gate) × (key ≡ key_of gate)
  gate-of b key has =
      let p = place-in (names b) key no_key has in
      let found = gate-there b.gates (place_of (names b) key) (omega (arith, p.0, names-long b)) in
      (place_of (names b) key, found.0, found.1, sym p.1 ∙ key-there b.gates (place_of (names b) key) found.0 found.1)

  -- the gates of one tree have names of the other's
  in-other : (a b : Tree) → IsGateTree system numbers top a → IsGateTree system numbers top b → (n : ℕ) → n < length a.gates → has_key (names b) (key_in a.gates n) ≡ true
  in-other a b first second n fits = first.reached n fits (λ k. has_key (names b) (key_in a.gates k)) closed start
    where
      start : has_key (names b) (key_in a.gates a.top) ≡ true
      start = ap (has_key (names b)) (first.top_is ∙ sym second.top_is) ∙ has-at (names b) b.top no_key (omega (arith, second.top_in, names-long b))

      closed : HasInputGates a.gates (λ k. has_key (names b) (key_in a.gates k))
      closed k m gate has at input =
          let found = gate-of b (key_in a.gates k) has in
          follow a b first second k found.0 m gate found.1 at found.2 (sym (key-there a.gates k gate at) ∙ found.3) input

  all-in : (a b : Tree) → IsGateTree system numbers top a → IsGateTree system numbers top b → (k : GateKey) → has_key (names a) k ≡ true → has_key (names b) k ≡ true
  all-in a b first second k has =
      let p = place-in (names a) k no_key has in
      ap (has_key (names b)) (sym p.1) ∙ in-other a b first second (place_of (names a) k) (omega (arith, p.0, names-long a))

  module _ (a b : Tree) (first : IsGateTree system numbers top a) (second : IsGateTree system numbers top b) where
    same-names : names a ≡ names b
    same-names = one-rising (names a) (names b) (rising (names a) first.rise) (rising (names b) second.rise) (all-in a b first second) (all-in b a second first)

    same-key-in : (n : ℕ) → key_in a.gates n ≡ key_in b.gates n
    same-key-in n = ap (λ (ks : List GateKey). get_or ks n no_key) same-names

    same-nodes : (ins : List Input) → map (node_of a.gates) ins ≡ map (node_of b.gates) ins
    same-nodes [] = refl
    same-nodes (inputs.Event n ∷ ins) = ap (λ ns. nodes.Basic n ∷ ns) (same-nodes ins)
    same-nodes (inputs.Gate n ∷ ins) = λ i. nodes.Gate (same-key-in n i) ∷ same-nodes ins i

    one-name : (n m : ℕ) → n < length a.gates → m < length a.gates → key_in a.gates n ≡ key_in a.gates m → n ≡ m
    one-name n m here there e = one-position (names a) first.rise n m no_key (omega (arith, names-long a)) (omega (arith, names-long a)) e

    abbrev InGates : List Input → Type 0
    InGates ins = (m : ℕ) → has_gate ins m ≡ true → m < length a.gates

    same-inputs : (xs ys : List Input) → InGates xs → InGates ys → map (node_of a.gates) xs ≡ map (node_of a.gates) ys → xs ≡ ys
    same-inputs [] [] f g e = refl
    same-inputs [] (y ∷ ys) f g e = cc
    same-inputs (x ∷ xs) [] f g e = cc
    same-inputs (x ∷ xs) (y ∷ ys) f g e =
        let tails : map (node_of a.gates) xs ≡ map (node_of a.gates) ys = cc in
        let heads : node_of a.gates x ≡ node_of a.gates y = cc in
        λ i. one x y (λ m h. f m (or_left (is_gate m x) (has_gate xs m) h)) (λ m h. g m (or_left (is_gate m y) (has_gate ys m) h)) heads i
        ∷ same-inputs xs ys (λ m h. f m (or_right (is_gate m x) (has_gate xs m) h)) (λ m h. g m (or_right (is_gate m y) (has_gate ys m) h)) tails i
      where
        one : (x y : Input) → ((m : ℕ) → is_gate m x ≡ true → m < length a.gates) → ((m : ℕ) → is_gate m y ≡ true → m < length a.gates) → node_of a.gates x ≡ node_of a.gates y → x ≡ y
        one (inputs.Event m) (inputs.Event n) f g e = let same : m ≡ n = cc in ap inputs.Event same
        one (inputs.Event m) (inputs.Gate n) f g e = cc
        one (inputs.Gate m) (inputs.Event n) f g e = cc
        one (inputs.Gate m) (inputs.Gate n) f g e =
            let same : key_in a.gates m ≡ key_in a.gates n = key-inner (key_in a.gates m) (key_in a.gates n) e in
            ap inputs.Gate (one-name m n (f m (eq-eqb m m refl)) (g n (eq-eqb n n refl)) same)

    same-gate : (n : ℕ) (x y : Gate) → slice_get a.gates n ≡ Some x → slice_get b.gates n ≡ Some y → x ≡ y
    same-gate n x y at there =
        let key : key_of x ≡ key_of y = sym (key-there a.gates n x at) ∙ same-key-in n ∙ key-there b.gates n y there in
        let lines : line_of a.gates x ≡ line_of b.gates y
        = one-gate system is_system numbers (line_of a.gates x) (line_of b.gates y) (first.gates_are n x at) (second.gates_are n y there) key in
        let kind : x.kind ≡ y.kind = ap (λ (l : Line). l.kind) lines in
        let long : length b.gates ≡ length a.gates = sym (names-long b) ∙ ap length (sym same-names) ∙ names-long a in
        let ins : x.inputs ≡ y.inputs
        = same-inputs x.inputs y.inputs (λ m e. first.inputs_in n m x at e) (λ m e. let within = second.inputs_in n m y there e in omega arith) (ap (λ (l : Line). l.inputs) lines ∙ sym (same-nodes y.inputs)) in
        λ i. record { fact = (key i).fact; stage = (key i).stage; place = (key i).place; kind = kind i; inputs = ins i }

    same-tree : a ≡ b
    same-tree =
        let gates : a.gates ≡ b.gates = same-gates a.gates b.gates same-names same-gate in
        let long : length a.gates ≡ length b.gates = ap length gates in
        let at_top : a.top ≡ b.top = one-name a.top b.top first.top_in (omega (arith, second.top_in)) (first.top_is ∙ sym second.top_is ∙ sym (same-key-in b.top)) in
        let events : a.events ≡ b.events = first.events ∙ ap (events_in (length system.events)) gates ∙ sym second.events in
        λ i. record { top = at_top i; gates = gates i; events = events i }

module _ (system : System) (is_system : IsSystem system) (target : ℕ) where
  one-of-node : (numbers : BlockNumbers) (node : Node) (a b : Tree) → IsTreeOf system numbers target a node → IsTreeOf system numbers target b node → a ≡ b
  one-of-node numbers nodes.Always a b first second = absurd first
  one-of-node numbers nodes.Never a b first second = absurd first
  one-of-node numbers (nodes.Basic n) a b first second = first ∙ sym second
  one-of-node numbers (nodes.Gate key) a b first second = same-tree system is_system numbers key a b first second

  -- a target has one tree at most
  pub one-tree : (a b : Tree) → IsTreeFor system target a → IsTreeFor system target b → a ≡ b
  one-tree a b first second =
      let slices : second.slice ≡ first.slice = one_slice system target second.slice first.slice second.is_slice first.is_slice in
      let blocks : IsBlocks system first.slice.facts second.numbers = subst (λ (s : Slice). IsBlocks system s.facts second.numbers) slices second.are_blocks in
      let there = (target-inside system target first.slice first.numbers first.is_slice first.are_blocks).0 in
      let last : last_node system first.numbers target ≡ last_node system second.numbers target
      = last-same system first.slice.facts first.numbers second.numbers first.are_blocks blocks is_system target there in
      let moved = tree-moves system first.slice.facts first.numbers second.numbers first.are_blocks blocks is_system target there a (last_node system second.numbers target) (subst (IsTreeOf system first.numbers target a) last first.is_tree) in
      one-of-node second.numbers (last_node system second.numbers target) a b moved second.is_tree

  -- a target that has a tree has none that is too large
  pub tree-or-large : (tree : Tree) (refusal : Refusal) → IsTreeFor system target tree → HasLargeTree system target refusal → ⊥
  tree-or-large tree refusal is large =
      let slices : large.slice ≡ is.slice = one_slice system target large.slice is.slice large.is_slice is.is_slice in
      let blocks : IsBlocks system is.slice.facts large.numbers = subst (λ (s : Slice). IsBlocks system s.facts large.numbers) slices large.are_blocks in
      let many : most_places < all_places system large.numbers is.slice.facts = subst (λ (s : Slice). most_places < all_places system large.numbers s.facts) slices large.many in
      let same : all_places system is.numbers is.slice.facts ≡ all_places system large.numbers is.slice.facts = places-same system is.slice.facts is.numbers large.numbers is.are_blocks blocks in
      omega (arith, is.few)
