-- What holds under some events holds under more.
use Rattle.std.proofs.Common.{ℕ, ◌≡◌, ◌<◌, true, length, Bool, List, ◌↔◌, Option, Some, None, ap, ◌∙◌, sym, refl}
use Rattle.std.proofs.lemmas.Bool.{false≢true}
use Rattle.std.specs.List.{slice_get}
use Rattle.fault_system.specs.Truth.{NumberSet, Has, member, occurs_event, truth}
use Rattle.fault_system.specs.Rounds.{no_event}
use Rattle.fault_system.specs.Systems.{System, IsSystem, IsFact, Holds, applied, holds_of}
use Rattle.fault_system.specs.declared.formula.FactInfo.{FactInfo}
use Rattle.fault_system.proofs.NumberSets.{member-map, member-past}
use Rattle.fault_system.proofs.HoldsLaws.{holds_of-exact}
use Rattle.fault_system.proofs.TruthLaws.{same_answer}
use Rattle.fault_system.proofs.Occurring.{truth-grows-on}
use Rattle.fault_system.proofs.Occurrences.{occurs_event-in_range, fact-in_range}
use Rattle.system_review.specs.Possible.{possible_in}
use Rattle.system_review.specs.inner.Possible.{IsAlways, IsPossible}

-- what the formulas say of a fact is what its own one says
pub applied-is : (system : System) (events facts : NumberSet) (n : ℕ) (fact : FactInfo) → IsFact system n fact → member (applied system events facts) n ≡ truth events facts fact.formula
applied-is system events facts n fact at = member-map (λ fact. truth events facts fact.formula) system.facts n fact at

-- where the formulas make a fact true, there is the fact
pub applied-fact : (system : System) (events facts : NumberSet) (n : ℕ) → Has (member (applied system events facts)) n → (fact : FactInfo) × IsFact system n fact
applied-fact system events facts n has = at (slice_get system.facts n) (λ o e. e) where
  at : (found : Option FactInfo) → ((o : Option FactInfo) → found ≡ o → slice_get system.facts n ≡ o) → (fact : FactInfo) × IsFact system n fact
  at None is = absurd (false≢true (sym (member-past (λ fact. truth events facts fact.formula) system.facts n (is None (λ i. None))) ∙ has))
  at (Some fact) is = (fact, is (Some fact) (λ i. Some fact))

pub holds-more : (system : System) (some more : NumberSet) → ((n e : ℕ) (fact : FactInfo) → IsFact system n fact → occurs_event e fact.formula ≡ true → Has some e → Has more e)
    → (n : ℕ) → Holds system some n → Holds system more n
holds-more system some more grows n holds facts closed =
    holds facts (λ m has.
    let there = applied-fact system some facts m has in
    closed m (applied-is system more facts m there.0 there.1
    ∙ truth-grows-on some more facts facts there.0.formula (λ e o h. grows m e there.0 there.1 o h) (λ k o h. h)
    (sym (applied-is system some facts m there.0 there.1) ∙ has)))

-- what may come about holds when all events of the system occur
pub possible-by_all : (system : System) (all : NumberSet) → IsSystem system → ((e : ℕ) → e < length system.events → Has all e) → (n : ℕ) → IsPossible system n → Holds system all n
possible-by_all system all is every n (events, holds) =
    holds-more system events all
    (λ m e fact at o h. every e (occurs_event-in_range (length system.facts) (length system.events) e fact.formula (fact-in_range system is m fact at) o)) n holds

-- a set of what may come about is that of what holds when all events occur
pub possible-computed : (system : System) (marks : List Bool) → IsSystem system → ((n : ℕ) → Has (member marks) n ↔ IsPossible system n) → (n : ℕ) → member marks n ≡ possible_in system n
possible-computed system marks is exact n = same_answer (member marks n) (possible_in system n)
    (λ has. (holds_of-exact system (λ event. true) n).1 (possible-by_all system (λ event. true) is (λ e low. refl) n ((exact n).0 has)))
    (λ has. (exact n).1 ((λ event. true), (holds_of-exact system (λ event. true) n).0 has))

-- what holds where no event occurs is what always holds
pub always-exact : (system : System) (marks : List Bool) → marks ≡ holds_of system no_event → (n : ℕ) → Has (member marks) n ↔ IsAlways system n
always-exact system marks are n = (
  (λ has events. holds-more system no_event events (λ m e fact at o h. absurd (false≢true h)) n ((holds_of-exact system no_event n).0 (sym (ap (λ all. member all n) are) ∙ has))),
  (λ always. ap (λ all. member all n) are ∙ (holds_of-exact system no_event n).1 (always no_event)),
)
