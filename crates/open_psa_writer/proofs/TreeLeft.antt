-- The elements of the text of a tree, one after the other.
use Rattle.std.proofs.Common.{ℕ, zero, suc, ◌+◌, ◌≡◌, ◌⊎◌, ◌==◌, Bool, true, false, if◌then◌else◌, List, [], ◌∷◌, ◌++◌, drop, map, slice_get, None, Some, inl, inr, ⊎_elim, ap, ◌∙◌, sym, refl, arith}
use Rattle.std.specs.List.{flat_map}
use Rattle.std.proofs.lemmas.Bool.{eqb-true, eqb-false, ne_eqb}
use Rattle.std.proofs.lemmas.Grind.{flat_map-append}
use Rattle.std.proofs.lemmas.List.{append_assoc}
use Rattle.fault_system.specs.Systems.{System}
use Rattle.property_reader.specs.declared.rate.Rate.{Rate}
use Rattle.round_gates.specs.declared.tree.Gate.{Gate}
use Rattle.round_gates.specs.declared.tree.Tree.{Tree}
use Rattle.open_psa_writer.specs.Mef.{MefGate, event_text, gate_text}
use Rattle.open_psa_writer.specs.inner.TreeMef.{events_text, group_text, others_text, past_top}
use Rattle.open_psa_writer.specs.TreeMef.{gate_parts, gates_from, mef_event, mef_gate}

-- what stands from a position on
drop-more : {X : Type 0} (xs : List X) (at : ℕ) (x : X) → slice_get xs at ≡ Some x → drop at xs ≡ x ∷ drop (suc at) xs
drop-more [] at x e = cc
drop-more (y ∷ xs) zero x e = let same : y ≡ x = cc in ap (λ z. z ∷ xs) same
drop-more (y ∷ xs) (suc at) x e = drop-more xs at x e

drop-none : {X : Type 0} (xs : List X) (at : ℕ) → slice_get xs at ≡ None → drop at xs ≡ []
drop-none [] zero e = refl
drop-none [] (suc at) e = refl
drop-none (y ∷ xs) zero e = cc
drop-none (y ∷ xs) (suc at) e = drop-none xs at e

drop-cases : {X : Type 0} (xs : List X) (at : ℕ) → ((x : X) × (drop at xs ≡ x ∷ drop (suc at) xs)) ⊎ ((drop at xs ≡ []) × (drop (suc at) xs ≡ []))
drop-cases [] zero = inr (refl, refl)
drop-cases [] (suc at) = inr (refl, refl)
drop-cases (y ∷ xs) zero = inl (y, refl)
drop-cases (y ∷ xs) (suc at) = drop-cases xs at

past-other : (top at : ℕ) → past_top top at ≡ top → ⊥
past-other top at = by (at == top) refl
  where
    by : (b : Bool) → (at == top) ≡ b → (if b then suc at else at) ≡ top → ⊥
    by true e h = let same : at ≡ top = eqb-true at top e in omega arith
    by false e h = eqb-false at top e h

module _ (system : System) (tree : Tree) where
  -- a gate at a position with its auxiliary gates, and all behind it
  abbrev with_group : ℕ → Gate → List MefGate
  with_group at g = mef_gate system tree.top at g ∷ (gate_parts tree.top at g ++ gates_from system tree.top (suc at) (drop (suc at) tree.gates))

  -- the top is passed
  skip : (at : ℕ) → others_text system tree at ≡ others_text system tree (past_top tree.top at)
  skip at = by (at == tree.top) refl
    where
      by : (b : Bool) → (at == tree.top) ≡ b → others_text system tree at ≡ others_text system tree (if b then suc at else at)
      by true e =
          ⊎_elim
          (λ (g, more). ap (λ gates. flat_map gate_text (gates_from system tree.top at gates)) more
          ∙ ap (λ (c : Bool). flat_map gate_text (if c then gates_from system tree.top (suc at) (drop (suc at) tree.gates) else with_group at g)) e)
          (λ (here, later). ap (λ gates. flat_map gate_text (gates_from system tree.top at gates)) here ∙ sym (ap (λ gates. flat_map gate_text (gates_from system tree.top (suc at) gates)) later))
          (drop-cases tree.gates at)
      by false e = refl

  -- the next gate that is not the top
  pub other-gate : (at : ℕ) (gate : Gate) (t : List ℕ) → slice_get tree.gates (past_top tree.top at) ≡ Some gate
      → others_text system tree at ++ t ≡ group_text system tree.top (past_top tree.top at) gate ++ (others_text system tree (past_top tree.top at + 1) ++ t)
  other-gate at gate t e =
      let place = past_top tree.top at in
      let next : suc place ≡ place + 1 = omega arith in
      let group = group_text system tree.top place gate in
      let split : others_text system tree place ≡ group ++ others_text system tree (suc place)
      = ap (λ gates. flat_map gate_text (gates_from system tree.top place gates)) (drop-more tree.gates place gate e)
      ∙ ap (λ (c : Bool). flat_map gate_text (if c then gates_from system tree.top (suc place) (drop (suc place) tree.gates) else with_group place gate))
      (ne_eqb place tree.top (past-other tree.top at))
      ∙ ap (λ u. gate_text (mef_gate system tree.top place gate) ++ u)
      (flat_map-append gate_text (gate_parts tree.top place gate) (gates_from system tree.top (suc place) (drop (suc place) tree.gates)))
      ∙ sym (append_assoc (gate_text (mef_gate system tree.top place gate)) (flat_map gate_text (gate_parts tree.top place gate)) (others_text system tree (suc place))) in
      ap (λ u. u ++ t) (skip at ∙ split)
      ∙ append_assoc group (others_text system tree (suc place)) t
      ∙ ap (λ n. group ++ (others_text system tree n ++ t)) next

  -- no gate is left
  pub no-gate : (at : ℕ) (t : List ℕ) → slice_get tree.gates (past_top tree.top at) ≡ None → others_text system tree at ++ t ≡ t
  no-gate at t e = ap (λ u. u ++ t) (skip at ∙ ap (λ gates. flat_map gate_text (gates_from system tree.top (past_top tree.top at) gates)) (drop-none tree.gates (past_top tree.top at) e))

-- a step of the code: the next gate that is not the top, at its place, was added to a buffer that was cleared
pub other-step : (system : System) (tree : Tree) (at place number : ℕ) (gate : Gate) (t : List ℕ) {cleared items : List ℕ}
    → place ≡ past_top tree.top at → number ≡ place → slice_get tree.gates place ≡ Some gate
    → cleared ≡ [] → items ≡ cleared ++ group_text system tree.top number gate
    → others_text system tree at ++ t ≡ items ++ (others_text system tree (place + 1) ++ t)
other-step system tree at place number gate t is_place is_number found none added =
    let text : ℕ → List ℕ = λ n. group_text system tree.top n gate in
    other-gate system tree at gate t (ap (slice_get tree.gates) (sym is_place) ∙ found)
    ∙ ap (λ n. text n ++ (others_text system tree (n + 1) ++ t)) (sym is_place)
    ∙ ap (λ n. text n ++ (others_text system tree (place + 1) ++ t)) (sym is_number)
    ∙ ap (λ u. u ++ (others_text system tree (place + 1) ++ t)) (sym (added ∙ ap (λ u. u ++ text number) none))

-- a step of the code: no gate is left, and what stands behind the gates was added
pub no-step : (system : System) (tree : Tree) (at place : ℕ) (back t : List ℕ) {cleared items : List ℕ}
    → place ≡ past_top tree.top at → slice_get tree.gates place ≡ None → cleared ≡ [] → items ≡ cleared ++ back
    → others_text system tree at ++ (back ++ t) ≡ items ++ t
no-step system tree at place back t is_place found none added =
    no-gate system tree at (back ++ t) (ap (slice_get tree.gates) (sym is_place) ∙ found)
    ∙ ap (λ u. u ++ t) (sym (added ∙ ap (λ u. u ++ back) none))

-- the next event
pub next-event : (system : System) (rates : List Rate) (events : List ℕ) (at number : ℕ) (t : List ℕ) → slice_get events at ≡ Some number
    → events_text system rates events at ++ t ≡ event_text (mef_event system rates number) ++ (events_text system rates events (at + 1) ++ t)
next-event system rates events at number t e =
    let next : suc at ≡ at + 1 = omega arith in
    ap (λ rest. flat_map event_text (map (mef_event system rates) rest) ++ t) (drop-more events at number e)
    ∙ append_assoc (event_text (mef_event system rates number)) (events_text system rates events (suc at)) t
    ∙ ap (λ n. event_text (mef_event system rates number) ++ (events_text system rates events n ++ t)) next

-- no event is left
pub no-event : (system : System) (rates : List Rate) (events : List ℕ) (at : ℕ) (t : List ℕ) → slice_get events at ≡ None → events_text system rates events at ++ t ≡ t
no-event system rates events at t e = ap (λ rest. flat_map event_text (map (mef_event system rates) rest) ++ t) (drop-none events at e)
