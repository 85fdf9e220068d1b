-- Tables that fit at the facts of a set which has, with each fact, all facts that occur in its formula.
use Rattle.std.proofs.Common.{ℕ, zero, suc, ◌≡◌, ◌<◌, ◌≤◌, ◌⊎◌, Bool, true, ◌&&◌, List, [], ◌∷◌, length, map, filter, inl, inr, ⊎_elim, ap, ◌∙◌, sym, refl, subst, arith}
use Rattle.std.specs.Prelude.{slice_index_or, nat_lt, nat_le}
use Rattle.std.specs.List.{list_any}
use Rattle.std.proofs.lemmas.Bool.{false≢true, cases_Bool, or_cases, and_from}
use Rattle.std.proofs.lemmas.Option.{slice_get_within}
use Rattle.fault_system.specs.Truth.{NumberSet, Has, member, occurs, occurs_event, set_of, truth}
use Rattle.fault_system.specs.Systems.{System, IsFact, round}
use Rattle.fault_system.specs.Rounds.{IsRoundOf, no_event, only, time_of}
use Rattle.fault_system.specs.inner.Rounds.{FitsFact, FitsTime, IsTable, within}
use Rattle.fault_system.specs.declared.formula.Formula.{Formula}
use Rattle.fault_system.specs.declared.formula.FactInfo.{FactInfo}
use Rattle.fault_system.proofs.HoldsLaws.{holds_of-exact}
use Rattle.fault_system.proofs.NumberSets.{RisesWithin-at, member-map, member-none, set_of-contained, set_of-filter}
use Rattle.fault_system.proofs.Occurring.{truth-same}
use Rattle.fault_system.proofs.RoundLaws.{in_time, on_time, timed, too_early, within_none}
use Rattle.fault_system.proofs.TruthLaws.{same_answer}
use Rattle.fault_system.proofs.Untouched.{any_from, any_of, untouched_fits}
use Rattle.backward_slice.specs.Slices.{HasItsCauses}
use Rattle.fact_users.specs.inner.Users.{AreUsers, users_at}
use Rattle.fact_users.specs.declared.users.Users.{Users}
use Rattle.backward_slice.specs.inner.Reach.{IsReach}
use Rattle.backward_slice.specs.declared.parts.Reach.{Reach}
use Rattle.plain_values.specs.Rising.{RisesWithin}
use Rattle.fmea_rows.specs.inner.Tables.{AreKeptUsers, FitsWhereFelt, IsRight, changed, facts_of}
use Rattle.fmea_rows.proofs.FeltLaws.{cause-reached, effect-reached, fact-reached}
use Rattle.fmea_rows.specs.declared.change.Change.{Change}
use Rattle.fmea_rows.proofs.TableLaws.{changed-other}

-- ---- the rounds of the facts of a set

module _ (system : System) (events : NumberSet) (times : List ℕ) (set : NumberSet) (causes : HasItsCauses system set)
    (facts : (n : ℕ) → Has set n → (fact : FactInfo) × IsFact system n fact) (fit : (n : ℕ) → Has set n → FitsFact system events (time_of times) n) where
  -- after r rounds those of these facts hold that have a time, at most r
  kept-round : (r n : ℕ) → Has set n → member (round system events r) n ≡ within (time_of times) r n
  kept-round zero n here = member-none system.facts n ∙ sym (within_none (time_of times) n)
  kept-round (suc r) n here =
      let there = facts n here in
      let fact = there.0 in
      member-map (λ (f : FactInfo). truth events (member (round system events r)) f.formula) system.facts n fact there.1
      ∙ truth-same events events (member (round system events r)) (within (time_of times) r) fact.formula (λ e o. refl)
      (λ m o. kept-round r m (causes n m fact here there.1 o))
      ∙ same_answer _ _ (on_time events (time_of times) fact.formula (time_of times n) r (fit n here fact there.1)) (in_time events (time_of times) fact.formula (time_of times n) r (fit n here fact there.1))

  at_time : (n t : ℕ) → Has set n → time_of times n ≡ t → IsRoundOf system events n t
  at_time n zero here e = λ holds.
      false≢true (sym (ap (λ k. nat_lt 0 k && nat_le k (length system.facts)) e) ∙ sym (kept-round (length system.facts) n here) ∙ (holds_of-exact system events n).1 holds)
  at_time n (suc t) here e = record {
    there = kept-round (suc t) n here ∙ ap (λ k. nat_lt 0 k && nat_le k (suc t)) e ∙ timed (suc t) (suc t) (omega arith) (omega arith);
    first = λ q h. kept-round q n here ∙ ap (λ k. nat_lt 0 k && nat_le k q) e ∙ too_early (suc t) q h;
  }

  -- the times are their rounds
  pub kept-rounds : (n : ℕ) → Has set n → IsRoundOf system events n (time_of times n)
  kept-rounds n here = at_time n (time_of times n) here refl

-- ---- a table whose changes were tested at the facts of a set

module _ (system : System) (event : ℕ) (base : List ℕ) (changes : List Change) (users : Users) (set : NumberSet) where
  -- a fact of the set fits, since it was tested or nothing that occurs in its formula changes
  pub kept-fits : event < length system.events → ((g : ℕ) → Has (set_of (facts_of changes)) g → g < length system.facts) → IsTable system no_event base → AreKeptUsers system set users
      → FitsWhereFelt (record { system = system; events = only event; times = changed base changes }) users event changes
      → (n : ℕ) → Has set n → FitsFact system (only event) (time_of (changed base changes)) n
  kept-fits here low table are felt n inside fact at =
      let touches : ℕ → Bool = λ g. occurs g fact.formula in
      let all : List ℕ = facts_of changes in
      let new : ℕ → ℕ = time_of (changed base changes) in
      ⊎_elim (λ e. (felt.around n e).0 fact at)
      (λ same. ⊎_elim (λ e. felt.at_event n (are.events n event fact inside at here e) fact at)
      (λ none. ⊎_elim (λ e. let t : (g : ℕ) × (set_of all g ≡ true) × (touches g ≡ true) = any_of touches all e in (felt.around t.0 t.1).1 n (are.facts n t.0 fact inside at (low t.0 t.1) t.2) fact at)
      (λ free. subst (FitsTime (only event) new fact.formula) (sym (changed-other base changes n same))
      (untouched_fits event (time_of base) new fact.formula (time_of base n)
      (record { no_event = none; same = λ g o. ⊎_elim (λ e. absurd (false≢true (sym free ∙ any_from touches all g e o))) (λ e. changed-other base changes g e) (cases_Bool (set_of all g)) })
      (table.each n fact at)))
      (cases_Bool (list_any touches all)))
      (cases_Bool (occurs_event event fact.formula)))
      (cases_Bool (set_of all n))

-- ---- the users that are in a set

kept-at : (p : NumberSet) (lists : List (List ℕ)) (g : ℕ) → slice_index_or (map (filter p) lists) g [] ≡ filter p (slice_index_or lists g [])
kept-at p [] g = refl
kept-at p (xs ∷ lists) zero = refl
kept-at p (xs ∷ lists) (suc g) = kept-at p lists g

kept-user : (p : NumberSet) (lists kept : List (List ℕ)) → kept ≡ map (filter p) lists → (g n : ℕ) → Has p n → Has (users_at lists g) n → Has (users_at kept g) n
kept-user p lists kept is g n inside has =
    ap (λ (ls : List (List ℕ)). users_at ls g n) is ∙ ap (λ (ns : List ℕ). set_of ns n) (kept-at p lists g) ∙ set_of-filter p (slice_index_or lists g []) n
    ∙ and_from (users_at lists g n) (p n) has inside

-- of all users those that are in a set
pub users-kept : (system : System) (set : NumberSet) (users kept : Users) → AreUsers system users → kept.facts.items ≡ map (filter set) users.facts.items → kept.events.items ≡ map (filter set) users.events.items → AreKeptUsers system set kept
users-kept system set users kept are facts events = record {
  facts = λ n g fact inside at low o. kept-user set users.facts.items kept.facts.items facts g n inside (are.facts n g fact (slice_get_within system.facts n fact at) at low o);
  events = λ n e fact inside at low o. kept-user set users.events.items kept.events.items events e n inside (are.events n e fact (slice_get_within system.facts n fact at) at low o);
}

-- a table whose changes were tested where they are felt is that of the event alone at all effects
pub right-made : (system : System) (effects : List ℕ) (event : ℕ) (base : List ℕ) (changes : List Change) (users : Users) (reach : Reach) → IsReach system effects reach → event < length system.events
    → RisesWithin 0 (length system.facts) (facts_of changes) → IsTable system no_event base → AreKeptUsers system (member reach.facts) users
    → FitsWhereFelt (record { system = system; events = only event; times = changed base changes }) users event changes → IsRight system effects event base changes
right-made system effects event base changes users reach is here rise table are felt = record {
  rise = rise;
  rounds = λ n among. kept-rounds system (only event) (changed base changes) (member reach.facts) (cause-reached system effects reach is) (fact-reached system effects reach is)
      (kept-fits system event base changes users (member reach.facts) here (λ g h. (RisesWithin-at 0 (length system.facts) (facts_of changes) g rise h).1) table are felt)
      n (effect-reached system effects reach is n (set_of-contained effects n among));
}
