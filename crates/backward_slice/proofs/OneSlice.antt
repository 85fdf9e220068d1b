-- A target has one slice, and it is served or refused for one reason.
use Rattle.std.proofs.Common.{◌≡◌, ℕ, List, length, Contains, ⊎_elim, sym, ◌∙◌, subst, ap, arith}
use Rattle.plain_values.specs.declared.refusal.Refusal.{Refusal}
use Rattle.fault_system.specs.Systems.{System}
use Rattle.plain_values.specs.Rising.{RisesWithin}
use Rattle.fault_system.proofs.NumberSets.{same_rising, contained-in_set, set_of-contained}
use Rattle.backward_slice.specs.Slices.{IsSlice, IsServed, IsTooLarge, HasLargeSlice}
use Rattle.backward_slice.specs.declared.parts.Slice.{Slice}

one_list : (high : ℕ) (xs ys : List ℕ) → RisesWithin 0 high xs → RisesWithin 0 high ys → ((n : ℕ) → Contains xs n → Contains ys n) → ((n : ℕ) → Contains ys n → Contains xs n) → xs ≡ ys
one_list high xs ys r s f g =
    same_rising 0 0 high xs ys r s (λ n h. contained-in_set ys n (f n (set_of-contained xs n h))) (λ n h. contained-in_set xs n (g n (set_of-contained ys n h)))

pub one_slice : (system : System) (target : ℕ) (a b : Slice) → IsSlice system target a → IsSlice system target b → a ≡ b
one_slice system target a b x y =
    let targets : a.target ≡ b.target = x.target_is ∙ sym y.target_is in
    let facts : a.facts ≡ b.facts = one_list (length system.facts) a.facts b.facts x.facts_rise y.facts_rise (λ n h. (y.facts n).1 ((x.facts n).0 h)) (λ n h. (x.facts n).1 ((y.facts n).0 h)) in
    let events : a.events ≡ b.events = one_list (length system.events) a.events b.events x.events_rise y.events_rise (λ n h. (y.events n).1 ((x.events n).0 h)) (λ n h. (x.events n).1 ((y.events n).0 h)) in
    λ i. record { target = targets i; facts = facts i; events = events i }

pub one_served : (system : System) (target : ℕ) (a b : Slice) → IsServed system target a → IsServed system target b → a ≡ b
one_served system target a b x y = one_slice system target a b x.is_slice y.is_slice

-- a slice that is served is not too large
pub served_or_large : (system : System) (target : ℕ) (slice : Slice) (refusal : Refusal) → IsServed system target slice → HasLargeSlice system target refusal → ⊥
served_or_large system target slice refusal served large =
    let same : large.0 ≡ slice = one_slice system target large.0 slice large.1 served.is_slice in
    let few_facts = served.few_facts in
    let few_events = served.few_events in
    ⊎_elim (λ h. absurd (omega (arith, h.0, ap (λ (s : Slice). length s.facts) same, few_facts))) (λ h. absurd (omega (arith, h.1, ap (λ (s : Slice). length s.events) same, few_events))) large.2

-- a slice is too large for one reason
large_once : (slice : Slice) (a b : Refusal) → IsTooLarge slice a → IsTooLarge slice b → a ≡ b
large_once slice a b x y =
    ⊎_elim (λ h. ⊎_elim (λ k. h.1 ∙ sym k.1) (λ k. absurd (omega (arith, h.0, k.0))) y) (λ h. ⊎_elim (λ k. absurd (omega (arith, h.0, k.0))) (λ k. h.2 ∙ sym k.2) y) x

pub one_large : (system : System) (target : ℕ) (a b : Refusal) → HasLargeSlice system target a → HasLargeSlice system target b → a ≡ b
one_large system target a b x y = large_once x.0 a b x.2 (subst (λ (s : Slice). IsTooLarge s b) (one_slice system target y.0 x.0 y.1 x.1) y.2)
