-- What is found among the sets that have the chosen numbers and so many more.
use Rattle.std.proofs.Common.{ℕ, zero, suc, ◌+◌, ◌-◌, ◌≡◌, ◌≢◌, ◌<◌, Bool, true, false, cond, List, [], ◌∷◌, ◌++◌, map, filter, ap, ◌∙◌, sym, refl, arith, ap₂, add-one, append_assoc, append-nil, map-id}
use Rattle.fault_system.specs.inner.Listings.{choose, rising_sets_up_to}

module _ (p : List ℕ → Bool) where
  -- the sets that pass, among those that are `chosen` and `more` of the `count` numbers from next on
  abbrev pub found : List ℕ → ℕ → ℕ → ℕ → List (List ℕ)
  found chosen more next count = filter p (map (λ rest. chosen ++ rest) (choose more next count))

  pub found-none : (chosen : List ℕ) (next count : ℕ) → found chosen 0 next count ≡ cond (p chosen) (chosen ∷ []) []
  found-none chosen next count = ap (λ set. cond (p set) (set ∷ []) []) (append-nil chosen)

  filter_append : (us vs : List (List ℕ)) → filter p (us ++ vs) ≡ filter p us ++ filter p vs
  filter_append [] vs = refl
  filter_append (u ∷ us) vs = step (p u) (filter_append us vs) where
    step : (b : Bool) → filter p (us ++ vs) ≡ filter p us ++ filter p vs → cond b (u ∷ filter p (us ++ vs)) (filter p (us ++ vs)) ≡ cond b (u ∷ filter p us) (filter p us) ++ filter p vs
    step true e = ap (λ xs. u ∷ xs) e
    step false e = e

  map_append : (chosen : List ℕ) (us vs : List (List ℕ)) → map (λ rest. chosen ++ rest) (us ++ vs) ≡ map (λ rest. chosen ++ rest) us ++ map (λ rest. chosen ++ rest) vs
  map_append chosen [] vs = refl
  map_append chosen (u ∷ us) vs = ap (λ xs. (chosen ++ u) ∷ xs) (map_append chosen us vs)

  map_cons : (chosen : List ℕ) (next : ℕ) (us : List (List ℕ)) → map (λ rest. chosen ++ rest) (map (λ set. next ∷ set) us) ≡ map (λ rest. (chosen ++ next ∷ []) ++ rest) us
  map_cons chosen next [] = refl
  map_cons chosen next (u ∷ us) =
      let head : chosen ++ next ∷ u ≡ (chosen ++ next ∷ []) ++ u = sym (append_assoc chosen (next ∷ []) u) in
      let tail = map_cons chosen next us in
      λ i. head i ∷ tail i

  found-more : (chosen : List ℕ) (more next count : ℕ) → found chosen (suc more) next (suc count) ≡ found (chosen ++ next ∷ []) more (next + 1) count ++ found chosen (suc more) (next + 1) count
  found-more chosen more next count =
      ap (filter p) (map_append chosen (map (λ set. next ∷ set) (choose more (next + 1) count)) (choose (suc more) (next + 1) count))
      ∙ filter_append (map (λ rest. chosen ++ rest) (map (λ set. next ∷ set) (choose more (next + 1) count))) (map (λ rest. chosen ++ rest) (choose (suc more) (next + 1) count))
      ∙ ap (λ sets. filter p sets ++ found chosen (suc more) (next + 1) count) (map_cons chosen next (choose more (next + 1) count))

  -- as the code counts: `more` is not 0, and next is below the number of events
  pub found-step : (chosen : List ℕ) (more next events : ℕ) → more ≢ 0 → next < events → found chosen more next (events - next) ≡ found (chosen ++ next ∷ []) (more - 1) (next + 1) (events - (next + 1)) ++ found chosen more (next + 1) (events - (next + 1))
  found-step chosen zero next events h l = absurd (h refl)
  found-step chosen (suc more) next events h l =
      let less : suc more - 1 ≡ more = omega arith in
      let fewer : events - next ≡ suc (events - (next + 1)) = omega arith in
      rw (less, fewer) (found-more chosen more next (events - (next + 1)))

  pub found-end : (chosen : List ℕ) (more next events : ℕ) → more ≢ 0 → next ≡ events → found chosen more next (events - next) ≡ []
  found-end chosen zero next events h e = absurd (h refl)
  found-end chosen (suc more) next events h e =
      let none : events - next ≡ 0 = omega arith in
      rw none refl

  -- what two calls found, the one with the next event and the other without it
  pub found-both : (chosen pushed after : List ℕ) (more next events : ℕ) (listed with_next all : List (List ℕ)) → more ≢ 0 → next < events → pushed ≡ chosen ++ next ∷ [] → after ≡ chosen
      → with_next ≡ listed ++ found pushed (more - 1) (next + 1) (events - (next + 1))
      → all ≡ with_next ++ found after more (next + 1) (events - (next + 1))
      → all ≡ listed ++ found chosen more next (events - next)
  found-both chosen pushed after more next events listed with_next all h l is_pushed is_after first second =
      let front : with_next ≡ listed ++ found (chosen ++ next ∷ []) (more - 1) (next + 1) (events - (next + 1)) = first ∙ ap (λ xs. listed ++ found xs (more - 1) (next + 1) (events - (next + 1))) is_pushed in
      let whole : all ≡ (listed ++ found (chosen ++ next ∷ []) (more - 1) (next + 1) (events - (next + 1))) ++ found chosen more (next + 1) (events - (next + 1)) =
      second ∙ ap (λ xs. with_next ++ found xs more (next + 1) (events - (next + 1))) is_after ∙ ap (λ xs. xs ++ found chosen more (next + 1) (events - (next + 1))) front in
      whole ∙ append_assoc listed (found (chosen ++ next ∷ []) (more - 1) (next + 1) (events - (next + 1))) (found chosen more (next + 1) (events - (next + 1))) ∙ ap (λ xs. listed ++ xs) (sym (found-step chosen more next events h l))

-- the sets of fewer than `size` of the numbers below `count`
abbrev pub sets_below : ℕ → ℕ → List (List ℕ)
sets_below zero count = []
sets_below (suc size) count = rising_sets_up_to size count

sets_below-more : (size count : ℕ) → sets_below (size + 1) count ≡ sets_below size count ++ choose size 0 count
sets_below-more zero count = refl
sets_below-more (suc size) count = rw add-one refl

-- after the sets of one size more
pub sized : (p : List ℕ → Bool) (size events : ℕ) (chosen : List ℕ) (listed all : List (List ℕ)) → listed ≡ filter p (sets_below size events) → chosen ≡ [] → all ≡ listed ++ found p chosen size 0 (events - 0) → all ≡ filter p (sets_below (size + 1) events)
sized p size events chosen listed all before empty more =
    let count : events - 0 ≡ events = omega arith in
    more ∙ ap₂ (λ xs ys. xs ++ ys) before (ap₂ (λ xs n. found p xs size 0 n) empty count ∙ ap (filter p) (map-id (choose size 0 events)))
    ∙ sym (filter_append p (sets_below size events) (choose size 0 events)) ∙ ap (filter p) (sym (sets_below-more size events))

pub all_sizes : (p : List ℕ → Bool) (size events : ℕ) (listed : List (List ℕ)) → size ≡ events → listed ≡ filter p (sets_below (size + 1) events) → listed ≡ filter p (rising_sets_up_to events events)
all_sizes p size events listed e h = h ∙ ap (λ n. filter p (sets_below n events)) (add-one size ∙ ap suc e)
