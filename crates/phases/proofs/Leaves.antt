-- Phases of one step are decided where what passes them and why they stop is.
use Rattle.std.proofs.Common.{◌≡◌, Result, Ok, Err, refl, sym, ◌∙◌, subst}
use Rattle.plain_values.specs.declared.refusal.Refusal.{Refusal}
use Rattle.plain_values.specs.Order.{IsClear, IsFirst}
use Rattle.plain_values.proofs.OrderLaws.{first_once}
use Rattle.phases.specs.Phases.{IsRefusal}
use Rattle.phases.specs.inner.Phases.{IsDecidedStep}
use Rattle.phases.specs.declared.status.Status.{Status}
use Rattle.phases.specs.declared.status.Status.TheVariants.{Refused}

-- a value, or a refusal
pub decided_rejects : {A : Type 0} (Same : Status → Status → Type 0) (Is : A → Type 0) (Why : Refusal → Type 0) → ((a b : A) → Is a → Is b → a ≡ b) → ((a : A) (refusal : Refusal) → Is a → Why refusal → ⊥)
    → ((a b : Refusal) → Why a → Why b → Same (Refused a) (Refused b)) → IsDecidedStep Same Is (IsRefusal Why)
decided_rejects Same Is Why one_value apart one_stop = record {
  one_value = one_value;
  apart = λ a status is why. apart a why.0 is why.1;
  one_stop = λ a b h k. subst (λ x. Same x b) (sym h.2) (subst (Same (Refused h.0)) (sym k.2) (one_stop h.0 k.0 h.1 k.1));
}

-- a value, or the first refusal of a group
pub decided_answers : {A : Type 0} (Same : Status → Status → Type 0) → ((status : Status) → Same status status) → (Is : A → Type 0) (Stands : Refusal → Type 0) → ((a b : A) → Is a → Is b → a ≡ b) → ((a : A) (refusal : Refusal) → Is a → Stands refusal → ⊥)
    → IsDecidedStep Same Is (IsRefusal (IsFirst Stands))
decided_answers Same itself Is Stands one_value apart =
    decided_rejects Same Is (IsFirst Stands) one_value (λ a refusal is first. apart a refusal is first.stands)
    (λ a b h k. subst (λ r. Same (Refused a) (Refused r)) (first_once Stands a b h k) (itself (Refused a)))

-- nothing, or the first refusal of a group
pub decided_tests : (Same : Status → Status → Type 0) → ((status : Status) → Same status status) → (Stands : Refusal → Type 0) → IsDecidedStep {A = Unit {0}} Same (λ _. IsClear Stands) (IsRefusal (IsFirst Stands))
decided_tests Same itself Stands = decided_answers {A = Unit {0}} Same itself (λ _. IsClear Stands) Stands (λ a b h k. refl) (λ a refusal clear stands. clear refusal stands)

-- a value alone
pub decided_accepts : {A : Type 0} (Same : Status → Status → Type 0) (Is : A → Type 0) → ((a b : A) → Is a → Is b → a ≡ b) → IsDecidedStep Same Is (λ status. ⊥)
decided_accepts Same Is one_value = record { one_value = one_value; apart = λ a status is none. none; one_stop = λ a b none. absurd none }

-- a value, or this status
pub decided_finds : {A : Type 0} (Same : Status → Status → Type 0) → ((status : Status) → Same status status) → (Is : A → Type 0) (status : Status) → ((a b : A) → Is a → Is b → a ≡ b) → IsDecidedStep Same Is (λ end. (end ≡ status) × ((value : A) → Is value → ⊥))
decided_finds Same itself Is status one_value = record {
  one_value = one_value;
  apart = λ a end is none. none.1 a is;
  one_stop = λ a b h k. subst (Same a) (h.0 ∙ sym k.0) (itself a);
}

-- the value or the refusal of a result
pub decided_computes : {A : Type 0} (Same : Status → Status → Type 0) → ((status : Status) → Same status status) → (result : Result A Refusal) → IsDecidedStep Same (λ value. result ≡ Ok value) (IsRefusal (λ refusal. result ≡ Err refusal))
decided_computes Same itself (Ok x) =
    decided_rejects Same _ _ (λ a b h k. let same : a ≡ b = cc (h, k) in same) (λ a refusal h k. absurd (cc (k))) (λ a b h k. absurd (cc (h)))
decided_computes Same itself (Err x) =
    decided_rejects Same _ _ (λ a b h k. absurd (cc (h))) (λ a refusal h k. absurd (cc (h))) (λ a b h k. let same : a ≡ b = cc (h, k) in subst (λ r. Same (Refused a) (Refused r)) same (itself (Refused a)))
