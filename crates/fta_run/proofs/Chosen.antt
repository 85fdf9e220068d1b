-- The chosen places rise below the number of reports.
use Rattle.std.proofs.Common.{◌<◌, ◌≤◌, ◌+◌, ℕ, List, [], ◌∷◌, length, Option, Some, None, inl, inr, refl, le_refl, arith}
use Rattle.std.specs.Prelude.{Contains}
use Rattle.std.proofs.lemmas.Option.{slice_get_within}
use Rattle.plain_values.specs.Rising.{RisesWithin}
use Rattle.fta_words.specs.Words.{AreChosen, Rise}
use Rattle.fault_system.proofs.Elements.{In-contains, contains_In, each-at}
use Rattle.std.specs.Prelude.{Bool, true, false, if◌then◌else◌}
use Rattle.fta_words.specs.Words.{reports_for}
use Rattle.fta_run.specs.Words.{IsRequest, Request}

rise_within : (low high : ℕ) (places : List ℕ) → Rise places → ((place : ℕ) → Contains places place → low ≤ place) → ((place : ℕ) → Contains places place → place < high) → RisesWithin low high places
rise_within low high [] rise above below = tt
rise_within low high (place ∷ places) rise above below = (
  above place (contains_In place (place ∷ places) (inl refl)),
  below place (contains_In place (place ∷ places) (inl refl)),
  rise_within (place + 1) high places rise.1
      (λ other here. let more : place < other = each-at (λ its. place < its) other places rise.0 (In-contains other places here) in omega (arith, more))
      (λ other here. below other (contains_In other (place ∷ places) (inr (In-contains other places here)))),
)

chosen_rise : (names : List (List ℕ)) (text : Option (List ℕ)) (chosen : List ℕ) → AreChosen names text chosen → RisesWithin 0 (length names) chosen
chosen_rise names None chosen are = rise_within 0 (length names) chosen are.rise (λ place here. omega arith) (λ place here. (are.chosen_are place).0 here)
chosen_rise names (Some text) chosen are =
    rise_within 0 (length names) chosen are.rise (λ place here. omega arith)
    (λ place here. let named = (are.chosen_are place).0 here in slice_get_within names place named.0 named.2.here)

wider : (low a b : ℕ) (places : List ℕ) → a ≤ b → RisesWithin low a places → RisesWithin low b places
wider low a b [] few rises = tt
wider low a b (place ∷ places) few rises = (rises.0, omega (arith, few, rises.1), wider (place + 1) a b places few rises.2)

few_reports : (has : Bool) (reports : List (List ℕ)) → length (if has then reports else []) ≤ length reports
few_reports true reports = le_refl (length reports)
few_reports false reports = omega arith

-- the chosen places rise below the number of reports
pub places_rise : (names words : List (List ℕ)) (asked : Request) → IsRequest names words asked → RisesWithin 0 (length names) asked.options.chosen
places_rise names words asked is =
    wider 0 (length (reports_for asked.kind names)) (length names) asked.options.chosen (few_reports _ names) (chosen_rise (reports_for asked.kind names) _ asked.options.chosen is.said.chosen)
