-- The gates of a text and those of its tree.
use Rattle.std.proofs.Common.{ℕ, zero, suc, ◌+◌, ◌-◌, ◌≡◌, ◌<◌, ◌≤◌, ◌==◌, nat_lt, Bool, true, false, if◌then◌else◌, List, [], ◌∷◌, length, ◌++◌, slice_get, Some, ⊎_elim, ap, ◌∙◌, sym, subst, refl, arith}
use Rattle.std.specs.List.{AllByRecursion}
use Rattle.std.proofs.lemmas.Bool.{eqb-true, eqb-false, ne_eqb, ltb-true, ltb-false, lt-ltb, cases_lt}
use Rattle.std.proofs.lemmas.Option.{get_or_from_slice_get}
use Rattle.fault_system.specs.Systems.{System}
use Rattle.property_reader.specs.declared.rate.Rate.{Rate}
use Rattle.round_gates.specs.declared.node.GateKind.{GateKind}
use Rattle.round_gates.specs.declared.node.GateKind.TheVariants.{And, Or, AtLeast}
use Rattle.round_gates.specs.declared.tree.Gate.{Gate}
use Rattle.round_gates.specs.declared.tree.Input.{Input}
use Rattle.round_gates.specs.declared.tree.Tree.{Tree}
use Rattle.round_gates.proofs.Basics.{all-append}
use Rattle.galileo_writer.proofs.Names.{item-there}
use Rattle.open_psa_writer.specs.Mef.{MefGate}
use Rattle.open_psa_writer.specs.TreeMef.{gate_number, gate_parts, gates_from, is_spread, kind_parts, mef_gate, no_gate, part_gate, part_row, part_rows, top_gate, tree_mef}
use Rattle.open_psa_writer.proofs.Counting.{all-back, all-front, from-map, from-rows, to-map, to-rows}

-- ---- numbers of gates

-- the position of the gate of a number
pub position_of : ℕ → ℕ → ℕ
position_of top m = if m == 1 then top else if nat_lt (m - 2) top then m - 2 else m - 1

-- the position of the number of a position is that position
pub position-back : (top n : ℕ) → position_of top (gate_number top n) ≡ n
unfolding position_of
position-back top n = by (n == top) refl
  where
    beyond : top ≤ n → (n ≡ top → ⊥) → top < n
    beyond more f = ⊎_elim (λ (less : top < n). less) (λ past. absurd (f (omega (arith, past, more)))) (cases_lt top n)

    low : (m : ℕ) → (m ≡ 1 → ⊥) → m - 2 < top → (if m == 1 then top else if nat_lt (m - 2) top then m - 2 else m - 1) ≡ m - 2
    low m f h = ap (λ c. if c then top else if nat_lt (m - 2) top then m - 2 else m - 1) (ne_eqb m 1 f) ∙ ap (λ c. if c then m - 2 else m - 1) (lt-ltb (m - 2) top h)

    high : (m : ℕ) → (m ≡ 1 → ⊥) → (c : Bool) → nat_lt (m - 2) top ≡ c → top ≤ m - 2 → (if m == 1 then top else if nat_lt (m - 2) top then m - 2 else m - 1) ≡ m - 1
    high m f true e h = let less : m - 2 < top = ltb-true (m - 2) top e in absurd (omega arith)
    high m f false e h = ap (λ c. if c then top else if nat_lt (m - 2) top then m - 2 else m - 1) (ne_eqb m 1 f) ∙ ap (λ c. if c then m - 2 else m - 1) e

    other : (b : Bool) → (n ≡ top → ⊥) → nat_lt n top ≡ b
        → (if (if b then n + 2 else n + 1) == 1 then top else if nat_lt ((if b then n + 2 else n + 1) - 2) top then (if b then n + 2 else n + 1) - 2 else (if b then n + 2 else n + 1) - 1) ≡ n
    other true f e = let less : n < top = ltb-true n top e in let back : n + 2 - 2 ≡ n = omega arith in low (n + 2) (λ h. omega arith) (omega arith) ∙ back
    other false f e =
        let more : top ≤ n = ltb-false n top e in
        let above : top < n = beyond more f in
        let back : n + 1 - 1 ≡ n = omega arith in
        high (n + 1) (λ h. omega arith) (nat_lt (n + 1 - 2) top) refl (omega arith) ∙ back

    by : (b : Bool) → (n == top) ≡ b
        → (if (if b then 1 else if nat_lt n top then n + 2 else n + 1) == 1 then top
        else if nat_lt ((if b then 1 else if nat_lt n top then n + 2 else n + 1) - 2) top then (if b then 1 else if nat_lt n top then n + 2 else n + 1) - 2
        else (if b then 1 else if nat_lt n top then n + 2 else n + 1) - 1) ≡ n
    by true e = sym (eqb-true n top e)
    by false e = other (nat_lt n top) (eqb-false n top e) refl

-- positions of one number are one
pub one-position : (top m n : ℕ) → gate_number top m ≡ gate_number top n → m ≡ n
one-position top m n e = sym (position-back top m) ∙ ap (position_of top) e ∙ position-back top n

-- a number is at most two more than its position
pub number-most : (top n : ℕ) → gate_number top n ≤ n + 2
number-most top n = by (n == top) (nat_lt n top)
  where
    by : (b c : Bool) → (if b then 1 else if c then n + 2 else n + 1) ≤ n + 2
    by true c = omega arith
    by false true = omega arith
    by false false = omega arith

-- ---- what holds of all gates of a text

-- what holds of the gate at a position and of its auxiliary gates
abbrev pub Group : (P : MefGate → Type 0) → System → ℕ → ℕ → Gate → Type 0
Group P system top n gate = P (mef_gate system top n gate) × AllByRecursion P (gate_parts top n gate)

module _ (P : MefGate → Type 0) (system : System) (top : ℕ) where
  abbrev rest_of : ℕ → List Gate → List MefGate
  rest_of base gates = gates_from system top (suc base) gates

  abbrev with_group : ℕ → Gate → List Gate → List MefGate
  with_group base g gates = mef_gate system top base g ∷ (gate_parts top base g ++ rest_of base gates)

  from-all : (base : ℕ) (gates : List Gate) → AllByRecursion P (gates_from system top base gates)
      → (k : ℕ) (gate : Gate) → slice_get gates k ≡ Some gate → (base + k ≡ top → ⊥) → Group P system top (base + k) gate
  from-all base [] all k gate at other = cc
  from-all base (g ∷ gates) all zero gate at other =
      let same : g ≡ gate = cc in
      let here : base + 0 ≡ base = omega arith in
      let others : AllByRecursion P (with_group base g gates)
      = subst (λ c. AllByRecursion P (if c then rest_of base gates else with_group base g gates)) (ne_eqb base top (λ e. other (here ∙ e))) all in
      subst (λ n. Group P system top n gate) (sym here)
      (subst (λ x. Group P system top base x) same (others.0, all-front P (gate_parts top base g) (rest_of base gates) others.1))
  from-all base (g ∷ gates) all (suc k) gate at other =
      let later : suc base + k ≡ base + suc k = omega arith in
      subst (λ n. Group P system top n gate) later (from-all (suc base) gates (rest (base == top) all) k gate at (λ e. other (sym later ∙ e)))
    where
      rest : (c : Bool) → AllByRecursion P (if c then rest_of base gates else with_group base g gates) → AllByRecursion P (rest_of base gates)
      rest true h = h
      rest false h = all-back P (gate_parts top base g) (rest_of base gates) h.1

  to-all : (base : ℕ) (gates : List Gate) → ((k : ℕ) (gate : Gate) → slice_get gates k ≡ Some gate → Group P system top (base + k) gate)
      → AllByRecursion P (gates_from system top base gates)
  to-all base [] each = tt
  to-all base (g ∷ gates) each =
      let here : base + 0 ≡ base = omega arith in
      both (base == top) (subst (λ n. Group P system top n g) here (each 0 g refl))
      (to-all (suc base) gates (λ k gate at. let later : base + suc k ≡ suc base + k = omega arith in subst (λ n. Group P system top n gate) later (each (suc k) gate at)))
    where
      both : (c : Bool) → Group P system top base g → AllByRecursion P (rest_of base gates) → AllByRecursion P (if c then rest_of base gates else with_group base g gates)
      both true h rest = rest
      both false h rest = (h.0, all-append P (gate_parts top base g) (rest_of base gates) h.1 rest)

-- what holds of all gates of the text holds of each gate of the tree and of its auxiliary gates
pub each-gate : (P : MefGate → Type 0) (system : System) (tree : Tree) (rates : List Rate) → AllByRecursion P ((tree_mef system tree rates).top ∷ (tree_mef system tree rates).others)
    → (n : ℕ) (gate : Gate) → slice_get tree.gates n ≡ Some gate → Group P system tree.top n gate
each-gate P system tree rates all n gate at = by (n == tree.top) refl
  where
    by : (b : Bool) → (n == tree.top) ≡ b → Group P system tree.top n gate
    by true e =
        let same : n ≡ tree.top = eqb-true n tree.top e in
        let found : top_gate tree ≡ gate
        = get_or_from_slice_get tree.gates tree.top gate no_gate (ap (slice_get tree.gates) (sym same) ∙ at) in
        subst (λ k. Group P system tree.top k gate) (sym same)
        (subst (λ x. Group P system tree.top tree.top x) found
        (all.0, all-front P (gate_parts tree.top tree.top (top_gate tree)) (gates_from system tree.top 0 tree.gates) all.1))
    by false e =
        let plain : 0 + n ≡ n = omega arith in
        let others = all-back P (gate_parts tree.top tree.top (top_gate tree)) (gates_from system tree.top 0 tree.gates) all.1 in
        subst (λ k. Group P system tree.top k gate) plain (from-all P system tree.top 0 tree.gates others n gate at (λ h. eqb-false n tree.top e (sym plain ∙ h)))

-- what holds of each gate of the tree and of its auxiliary gates holds of all gates of the text
pub all-gates : (P : MefGate → Type 0) (system : System) (tree : Tree) (rates : List Rate) → tree.top < length tree.gates
    → ((n : ℕ) (gate : Gate) → slice_get tree.gates n ≡ Some gate → Group P system tree.top n gate)
    → AllByRecursion P ((tree_mef system tree rates).top ∷ (tree_mef system tree rates).others)
all-gates P system tree rates fits each =
    let there = item-there tree.gates tree.top fits in
    let top : Group P system tree.top tree.top (top_gate tree)
    = subst (λ x. Group P system tree.top tree.top x) (sym (get_or_from_slice_get tree.gates tree.top there.0 no_gate there.1)) (each tree.top there.0 there.1) in (
      top.0,
      all-append P (gate_parts tree.top tree.top (top_gate tree)) (gates_from system tree.top 0 tree.gates) top.1
          (to-all P system tree.top 0 tree.gates (λ k gate at. let plain : k ≡ 0 + k = omega arith in subst (λ n. Group P system tree.top n gate) plain (each k gate at))),
    )

-- ---- auxiliary gates

-- what holds of each auxiliary gate of a kind over its inputs, where there are any
pub to-parts : (P : MefGate → Type 0) (top number : ℕ) (kind : GateKind) (ins : List Input)
    → ((least needed among : ℕ) → kind ≡ AtLeast least → is_spread least ins ≡ true → 1 ≤ needed → needed ≤ least → needed ≤ among → among ≤ needed + (length ins - least) → least ≤ length ins
    → P (part_gate top number ins needed among)) → AllByRecursion P (kind_parts top number kind ins)
to-parts P top number And ins each = tt
to-parts P top number Or ins each = tt
to-parts P top number (AtLeast least) ins each = by (is_spread least ins) refl
  where
    by : (b : Bool) → is_spread least ins ≡ b → AllByRecursion P (if b then part_rows top number ins least else [])
    by true spread =
        to-rows P (part_row top number ins least) 1 least
        (λ needed low high. to-map P (part_gate top number ins needed) needed (length ins + 1 - least)
        (λ among from until. each least needed among refl spread low (omega (arith, high)) from (omega (arith, from, until)) (omega (arith, from, until))))
    by false spread = tt

-- what holds of all auxiliary gates of a gate that counts and has them
pub from-parts : (P : MefGate → Type 0) (top number least : ℕ) (ins : List Input) → is_spread least ins ≡ true → AllByRecursion P (kind_parts top number (AtLeast least) ins)
    → (needed among : ℕ) → 1 ≤ needed → needed ≤ least → needed ≤ among → among ≤ needed + (length ins - least) → least ≤ length ins → P (part_gate top number ins needed among)
from-parts P top number least ins spread all needed among some most low high fits =
    let rows : AllByRecursion P (part_rows top number ins least) = subst (λ b. AllByRecursion P (if b then part_rows top number ins least else [])) spread all in
    from-map P (part_gate top number ins needed) needed (length ins + 1 - least)
    (from-rows P (part_row top number ins least) 1 least rows needed some (omega (arith, most))) among low (omega (arith, high, fits))
