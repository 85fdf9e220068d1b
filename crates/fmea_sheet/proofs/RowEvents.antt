-- The effects of the rows of an event are those that it reaches alone.
use Rattle.std.proofs.Common.{ℕ, zero, suc, ◌≡◌, ◌<◌, ◌≤◌, ◌==◌, Bool, true, false, cond, List, [], ◌∷◌, ◌++◌, length, map, ap, ◌∙◌, refl, arith, ⊎_elim, append-nil, eq-eqb}
use Rattle.std.specs.Prelude.{filter}
use Rattle.std.specs.List.{flat_map}
use Rattle.std.proofs.lemmas.Bool.{cases_eq, ne_eqb}
use Rattle.std.proofs.lemmas.Grind.{flat_map-append}
use Rattle.std.proofs.lemmas.List.{map-append}
use Rattle.std.proofs.lemmas.List.Elements.{filter-append}
use Rattle.plain_values.specs.Numbered.{numbers_below}
use Rattle.fault_system.specs.Systems.{System}
use Rattle.fmea_rows.specs.Rows.{event_rows, is_reached, row_of, rows_of}
use Rattle.fmea_rows.specs.declared.row.Row.{Row}
use Rattle.fmea_sheet.specs.inner.Written.{effects_in}

effects-append : (xs ys : List Row) (k : ℕ) → effects_in (xs ++ ys) k ≡ effects_in xs k ++ effects_in ys k
effects-append xs ys k =
    let is = λ (row : Row). row.event == k in
    ap (map (λ (row : Row). row.effect)) (filter-append is xs ys) ∙ map-append (λ (row : Row). row.effect) (filter is xs) (filter is ys)

module _ (system : System) (effects : List ℕ) (k : ℕ) where
  kept : (b : Bool) (row : Row) (rows : List Row) → map (λ (one : Row). one.effect) (cond b (row ∷ rows) rows) ≡ cond b (row.effect ∷ []) [] ++ map (λ (one : Row). one.effect) rows
  kept true row rows = refl
  kept false row rows = refl

  of-rows : (m : ℕ) (facts : List ℕ) → m ≡ k → effects_in (map (row_of system m) facts) k ≡ facts
  of-rows m [] same = refl
  of-rows m (fact ∷ facts) same =
      kept (m == k) (row_of system m fact) (filter (λ (row : Row). row.event == k) (map (row_of system m) facts))
      ∙ ap (λ b. cond b (fact ∷ []) [] ++ effects_in (map (row_of system m) facts) k) (eq-eqb m k same)
      ∙ ap (λ rest. fact ∷ rest) (of-rows m facts same)

  of-others : (m : ℕ) (facts : List ℕ) → (m == k) ≡ false → effects_in (map (row_of system m) facts) k ≡ []
  of-others m [] other = refl
  of-others m (fact ∷ facts) other =
      kept (m == k) (row_of system m fact) (filter (λ (row : Row). row.event == k) (map (row_of system m) facts))
      ∙ ap (λ b. cond b (fact ∷ []) [] ++ effects_in (map (row_of system m) facts) k) other
      ∙ of-others m facts other

  rows-more : (n : ℕ) → effects_in (flat_map (event_rows system effects) (numbers_below (suc n))) k
      ≡ effects_in (flat_map (event_rows system effects) (numbers_below n)) k ++ effects_in (event_rows system effects n) k
  rows-more n =
      ap (λ rows. effects_in rows k) (flat_map-append (event_rows system effects) (numbers_below n) (n ∷ [])
      ∙ ap (λ rows. flat_map (event_rows system effects) (numbers_below n) ++ rows) (append-nil (event_rows system effects n)))
      ∙ effects-append (flat_map (event_rows system effects) (numbers_below n)) (event_rows system effects n) k

  none-before : (n : ℕ) → n ≤ k → effects_in (flat_map (event_rows system effects) (numbers_below n)) k ≡ []
  none-before zero h = refl
  none-before (suc n) h =
      rows-more n ∙ ap (λ front. front ++ effects_in (event_rows system effects n) k) (none-before n (omega arith))
      ∙ of-others n (filter (is_reached system n) effects) (ne_eqb n k (λ same. omega arith))

  own-among : (n : ℕ) → k < n → effects_in (flat_map (event_rows system effects) (numbers_below n)) k ≡ filter (is_reached system k) effects
  own-among zero h = absurd (omega arith)
  own-among (suc n) h = rows-more n ∙ ⊎_elim
      (λ (same : n ≡ k). ap (λ front. front ++ effects_in (event_rows system effects n) k) (none-before n (omega arith))
      ∙ of-rows n (filter (is_reached system n) effects) same ∙ ap (λ m. filter (is_reached system m) effects) same)
      (λ differ. (λ i. own-among n (omega (arith, differ)) i ++ of-others n (filter (is_reached system n) effects) (ne_eqb n k differ) i)
      ∙ append-nil (filter (is_reached system k) effects))
      (cases_eq n k)

-- the effects of the rows of an event, among those of all events
pub effects-reached : (system : System) (effects : List ℕ) (k : ℕ) → k < length system.events → effects_in (rows_of system effects) k ≡ filter (is_reached system k) effects
effects-reached system effects k within = own-among system effects k (length system.events) within
