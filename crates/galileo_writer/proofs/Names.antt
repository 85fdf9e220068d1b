-- Names of events and of gates: they differ, and a set of names is told by numbers.
use Rattle.std.proofs.Common.{ℕ, zero, suc, ◌≡◌, ◌<◌, ◌^◌, Bool, true, false, ◌&&◌, ◌||◌, List, [], ◌∷◌, ◌++◌, length, map, decimal, get_or, slice_get, unwrap_or, All, Contains, Some, inl, ⊎_elim, ap, ◌∙◌, sym, subst, refl, arith}
use Rattle.std.specs.Option.{option_map}
use lib.ListN.{length-map}
use Rattle.std.proofs.lemmas.Bool.{cases_order}
use Rattle.std.proofs.lemmas.Fmt.{decimal_injective}
use Rattle.std.proofs.lemmas.Option.{get_or_from_slice_get, slice_get_cases, slice_get_within}
use Rattle.std.proofs.lemmas.List.Elements.{All-get_or}
use Rattle.std.proofs.lemmas.Slice.Eq.{bytes_eq-Decides}
use Rattle.plain_values.specs.Name.{is_same_text}
use Rattle.fault_system.specs.Truth.{NumberSet}
use Rattle.fault_system.specs.Systems.{System, IsSystem, NamesDiffer, event_name, fact_name}
use Rattle.fault_system.proofs.Elements.{In, In-append, In-back, In-contains, contains_In}
use Rattle.round_gates.specs.declared.tree.Gate.{Gate}
use Rattle.round_gates.specs.Trees.{key_of}
use Rattle.galileo_writer.specs.Galileo.{IsPlainName}
use Rattle.galileo_writer.specs.TreeText.{gate_name, has_name}
use Rattle.galileo_writer.specs.inner.TreeText.{HasTextNames}
use Rattle.galileo_writer.proofs.Bytes.{IsDigit, cut-first, cut-last, decimal-lacks}

-- ---- names by number

-- the name of an item by its number
pub named-at : {X : Type 0} (named : X → List ℕ) (items : List X) (n : ℕ) → unwrap_or (option_map named (slice_get items n)) [] ≡ get_or (map named items) n []
named-at named [] n = refl
named-at named (x ∷ items) zero = refl
named-at named (x ∷ items) (suc n) = named-at named items n

pub named-here : {X : Type 0} (named : X → List ℕ) (items : List X) (n : ℕ) (x : X) → slice_get items n ≡ Some x → get_or (map named items) n [] ≡ named x
named-here named [] n x at = cc
named-here named (y ∷ items) zero x at = let same : y ≡ x = cc in ap named same
named-here named (y ∷ items) (suc n) x at = named-here named items n x at

-- an item of a list that has a number
pub item-there : {X : Type 0} (items : List X) (n : ℕ) → n < length items → (x : X) × (slice_get items n ≡ Some x)
item-there items n fits = ⊎_elim (λ (x, inside, at, same). (x, at)) (λ past. absurd (omega (arith, past.0))) (slice_get_cases items n).1

-- names that differ have one number each
pub one-number : (names : List (List ℕ)) → NamesDiffer names → (m n : ℕ) → m < length names → n < length names → get_or names m [] ≡ get_or names n [] → m ≡ n
one-number names differ m n here there e =
    ⊎_elim (λ same. same) (λ apart. ⊎_elim (λ less. absurd (differ m n [] less there e)) (λ more. absurd (differ n m [] more here (sym e))) apart) (cases_order m n)

-- ---- sets of names

same-text : (a b : List ℕ) → a ≡ b → is_same_text a b ≡ true
same-text a b e = (bytes_eq-Decides a b).1 e

other-text : (a b : List ℕ) → (a ≡ b → ⊥) → is_same_text a b ≡ false
other-text a b differ = by (is_same_text a b) refl
  where
    by : (c : Bool) → is_same_text a b ≡ c → c ≡ false
    by true e = absurd (differ ((bytes_eq-Decides a b).0 e))
    by false e = refl

nothing : (a b c : Bool) → b ≡ false → c ≡ false → (a && b) || c ≡ false
nothing true b c e f = ap (λ x. x || c) e ∙ f
nothing false b c e f = f

only-first : (a b c : Bool) → b ≡ true → c ≡ false → (a && b) || c ≡ a
only-first true b c e f = ap (λ x. x || c) e
only-first false b c e f = f

only-rest : (a b c : Bool) → b ≡ false → (a && b) || c ≡ c
only-rest true b c e = ap (λ x. x || c) e
only-rest false b c e = refl

-- a name that is none of the items' is in no set of theirs
pub has-none : {X : Type 0} (named : X → List ℕ) (items : List X) (set : NumberSet) (name : List ℕ) → ((n : ℕ) → n < length items → get_or (map named items) n [] ≡ name → ⊥) → has_name named items set name ≡ false
has-none named [] set name none = refl
has-none named (x ∷ items) set name none = nothing (set 0) _ _ (other-text (named x) name (none 0 (omega arith))) (has-none named items (λ n. set (suc n)) name (λ n fits. none (suc n) (omega arith)))

-- a set of items has the name of an item exactly where it has the item, where all names differ
pub has-own : {X : Type 0} (named : X → List ℕ) (items : List X) → NamesDiffer (map named items) → (set : NumberSet) (n : ℕ) → n < length items → has_name named items set (get_or (map named items) n []) ≡ set n
has-own named [] differ set n fits = absurd (omega arith)
has-own named (x ∷ items) differ set zero fits =
    only-first (set 0) _ _ (same-text (named x) (named x) refl)
    (has-none named items (λ n. set (suc n)) (named x) (λ n inside e. differ 0 (suc n) [] (omega arith) (omega (arith, length-map items named)) (sym e)))
has-own named (x ∷ items) differ set (suc n) fits =
    only-rest (set 0) _ _ (other-text (named x) (get_or (map named items) n []) (differ 0 (suc n) [] (omega arith) (omega (arith, length-map items named))))
    ∙ has-own named items (λ i j d less inside. differ (suc i) (suc j) d (omega arith) (omega arith)) (λ k. set (suc k)) n (omega arith)

-- ---- names of gates

number-lacks : (byte stage place : ℕ) → (IsDigit byte → ⊥) → (46 ≡ byte → ⊥) → In byte (decimal stage ++ 46 ∷ decimal place) → ⊥
number-lacks byte stage place none other i =
    ⊎_elim (decimal-lacks byte stage none) (λ later. ⊎_elim other (decimal-lacks byte place none) later) (In-append byte (decimal stage) (46 ∷ decimal place) i)

module _ (system : System) where
  fact-named : (n : ℕ) → fact_name system n ≡ get_or (map (λ fact. fact.name) system.facts) n []
  fact-named n = named-at (λ fact. fact.name) system.facts n

  -- each gate's name has an `@`
  pub gate-at-sign : (gate : Gate) → In 64 (gate_name system gate)
  gate-at-sign gate = In-back 64 (fact_name system gate.fact) (64 ∷ (decimal gate.stage ++ 46 ∷ decimal gate.place)) (inl refl)

  pub one-gate-name : IsSystem system → (g h : Gate) → g.fact < length system.facts → h.fact < length system.facts → g.stage < 2 ^ 32 → h.stage < 2 ^ 32 → g.place < 2 ^ 32 → h.place < 2 ^ 32 → gate_name system g ≡ gate_name system h → key_of g ≡ key_of h
  one-gate-name is g h f_in g_in s_g s_h p_g p_h e =
      let at = cut-last 64 (fact_name system g.fact) (fact_name system h.fact) (decimal g.stage ++ 46 ∷ decimal g.place) (decimal h.stage ++ 46 ∷ decimal h.place)
      (number-lacks 64 g.stage g.place (λ d. omega (arith, d.1)) (λ same. omega arith)) (number-lacks 64 h.stage h.place (λ d. omega (arith, d.1)) (λ same. omega arith)) e in
      let dot = cut-first 46 (decimal g.stage) (decimal h.stage) (decimal g.place) (decimal h.place) (decimal-lacks 46 g.stage (λ d. omega (arith, d.0))) (decimal-lacks 46 h.stage (λ d. omega (arith, d.0))) at.1 in
      let long : length (map (λ fact. fact.name) system.facts) ≡ length system.facts = length-map system.facts (λ fact. fact.name) in
      let fact : g.fact ≡ h.fact = one-number (map (λ fact. fact.name) system.facts) is.facts_named g.fact h.fact (omega arith) (omega arith) (sym (fact-named g.fact) ∙ at.0 ∙ fact-named h.fact) in
      let stage : g.stage ≡ h.stage = decimal_injective g.stage h.stage (omega arith) (omega arith) dot.0 in
      let place : g.place ≡ h.place = decimal_injective g.place h.place (omega arith) (omega arith) dot.1 in
      λ i. record { fact = fact i; stage = stage i; place = place i }

  module _ (names : HasTextNames system) where
    -- what holds of each item holds of one that has a number
    all-there : {X : Type 0} (P : X → Type 0) (items : List X) (n : ℕ) (x : X) → All P items → slice_get items n ≡ Some x → P x
    all-there P items n x all at = subst P (get_or_from_slice_get items n x x at) (All-get_or P items n x (slice_get_within items n x at) all)

    pub event-plain : (n : ℕ) → n < length system.events → IsPlainName (event_name system n)
    event-plain n fits =
        let event = item-there system.events n fits in
        let named : event_name system n ≡ event.0.name = named-at (λ e. e.name) system.events n ∙ named-here (λ e. e.name) system.events n event.0 event.1 in
        subst IsPlainName (sym named) (all-there (λ e. IsPlainName e.name) system.events n event.0 names.events event.1)

    fact-plain : (n : ℕ) → n < length system.facts → IsPlainName (fact_name system n)
    fact-plain n fits =
        let fact = item-there system.facts n fits in
        let named : fact_name system n ≡ fact.0.name = named-at (λ f. f.name) system.facts n ∙ named-here (λ f. f.name) system.facts n fact.0 fact.1 in
        subst IsPlainName (sym named) (all-there (λ f. IsPlainName f.name) system.facts n fact.0 names.facts fact.1)

    -- no event has the name of a gate
    pub event-or-gate : (n : ℕ) → n < length system.events → (gate : Gate) → event_name system n ≡ gate_name system gate → ⊥
    event-or-gate n fits gate e =
        let event = item-there system.events n fits in
        let named : event_name system n ≡ event.0.name = named-at (λ e. e.name) system.events n ∙ named-here (λ e. e.name) system.events n event.0 event.1 in
        all-there (λ e. Contains e.name 64 → ⊥) system.events n event.0 names.no_at event.1 (subst (λ (name : List ℕ). Contains name 64) (sym e ∙ named) (contains_In 64 (gate_name system gate) (gate-at-sign gate)))

    gate-lacks : (byte : ℕ) (gate : Gate) → (IsDigit byte → ⊥) → (46 ≡ byte → ⊥) → (64 ≡ byte → ⊥) → (In byte (fact_name system gate.fact) → ⊥) → Contains (gate_name system gate) byte → ⊥
    gate-lacks byte gate digit dot sign fact has =
        ⊎_elim fact (λ later. ⊎_elim sign (number-lacks byte gate.stage gate.place digit dot) later)
        (In-append byte (fact_name system gate.fact) (64 ∷ (decimal gate.stage ++ 46 ∷ decimal gate.place)) (In-contains byte (gate_name system gate) has))

    not-empty : (xs ys : List ℕ) (byte : ℕ) → xs ++ byte ∷ ys ≡ [] → ⊥
    not-empty [] ys byte e = cc
    not-empty (x ∷ xs) ys byte e = cc

    pub gate-plain : (gate : Gate) → gate.fact < length system.facts → IsPlainName (gate_name system gate)
    gate-plain gate fits =
        let fact = fact-plain gate.fact fits in
        record {
          some = not-empty (fact_name system gate.fact) (decimal gate.stage ++ 46 ∷ decimal gate.place) 64;
          no_quote = gate-lacks 34 gate (λ d. omega (arith, d.0)) (λ e. omega arith) (λ e. omega arith) (λ i. fact.no_quote (contains_In 34 (fact_name system gate.fact) i));
          no_line_feed = gate-lacks 10 gate (λ d. omega (arith, d.0)) (λ e. omega arith) (λ e. omega arith) (λ i. fact.no_line_feed (contains_In 10 (fact_name system gate.fact) i));
        }
