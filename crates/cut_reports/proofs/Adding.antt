-- Counts and marks that are added place by place.
use Rattle.std.proofs.Common.{◌≡◌, ℕ, ◌+◌, ◌<◌, ◌≤◌, ◌⊎◌, Bool, true, false, List, inl, inr, refl, sym, ap, ◌∙◌, arith}
use Rattle.std.specs.Prelude.{◌==◌, ◌||◌, slice_index_or, if◌then◌else◌}
use Rattle.std.proofs.lemmas.Bool.{cases_lt, eqb-true, eq-eqb}
use Rattle.fta_outside.specs.Counts.{capped}
use Rattle.cut_reports.specs.inner.Counts.{AddedAt}

by-test : (b : Bool) → (b ≡ true → ⊥) → b ≡ false
by-test true h = absurd (h refl)
by-test false h = refl

differ : (i n : ℕ) → (i ≡ n → ⊥) → (i == n) ≡ false
differ i n apart = by-test (i == n) (λ e. apart (eqb-true i n e))

-- below this place the counts are the sums, and from it on they are as before
pub record AddedTo (place : ℕ) (more before after : List ℕ) : Type 0 where
  pub done : (i : ℕ) → i < place → slice_index_or after i 0 ≡ capped (slice_index_or before i 0 + slice_index_or more i 0)
  pub rest : (i : ℕ) → place ≤ i → slice_index_or after i 0 ≡ slice_index_or before i 0

pub added_none : (more before : List ℕ) → AddedTo 0 more before before
added_none more before = record { done = λ i h. absurd (omega (arith, h)); rest = λ i h. refl }

pub added_next : (place here : ℕ) (more before mid after : List ℕ) → here ≡ slice_index_or more place 0 → AddedTo place more before mid → AddedAt place here mid after → AddedTo (place + 1) more before after
added_next place here more before mid after is so step = record {
  done = λ i h. step i ∙ by i (cases_lt i place) h;
  rest = λ i h. step i ∙ ap (λ b. if b then capped (slice_index_or mid i 0 + here) else slice_index_or mid i 0) (differ i place (λ e. past i h e)) ∙ so.rest i (omega (arith, h));
} where
  past : (i : ℕ) → place + 1 ≤ i → i ≡ place → ⊥
  past i h e = absurd (omega (arith, h, e))

  below : (i : ℕ) → i < place → i ≡ place → ⊥
  below i h e = absurd (omega (arith, h, e))

  by : (i : ℕ) → (i < place) ⊎ (place ≤ i) → i < place + 1 → (if i == place then capped (slice_index_or mid i 0 + here) else slice_index_or mid i 0) ≡ capped (slice_index_or before i 0 + slice_index_or more i 0)
  by i (inl less) h = ap (λ b. if b then capped (slice_index_or mid i 0 + here) else slice_index_or mid i 0) (differ i place (below i less)) ∙ so.done i less
  by i (inr from) h =
      let same : i ≡ place = omega (arith, from, h) in
      ap (λ b. if b then capped (slice_index_or mid i 0 + here) else slice_index_or mid i 0) (eq-eqb i place same)
      ∙ ap (λ n. capped (n + here)) (so.rest i from) ∙ ap (λ n. capped (slice_index_or before i 0 + n)) (is ∙ ap (λ n. slice_index_or more n 0) (sym same))

-- below this place the marks are joined, and from it on they are as before
pub record MarkedTo (event : ℕ) (more before after : List Bool) : Type 0 where
  pub done : (i : ℕ) → i < event → slice_index_or after i false ≡ (slice_index_or before i false || slice_index_or more i false)
  pub rest : (i : ℕ) → event ≤ i → slice_index_or after i false ≡ slice_index_or before i false

pub joined_none : (more before : List Bool) → MarkedTo 0 more before before
joined_none more before = record { done = λ i h. absurd (omega (arith, h)); rest = λ i h. refl }

pub joined_next : (event : ℕ) (here : Bool) (more before mid after : List Bool) → here ≡ slice_index_or more event false → MarkedTo event more before mid
    → ((i : ℕ) → slice_index_or after i false ≡ (if i == event then (slice_index_or mid i false || here) else slice_index_or mid i false)) → MarkedTo (event + 1) more before after
joined_next event here more before mid after is so step = record {
  done = λ i h. step i ∙ by i (cases_lt i event) h;
  rest = λ i h. step i ∙ ap (λ b. if b then (slice_index_or mid i false || here) else slice_index_or mid i false) (differ i event (λ e. past i h e)) ∙ so.rest i (omega (arith, h));
} where
  past : (i : ℕ) → event + 1 ≤ i → i ≡ event → ⊥
  past i h e = absurd (omega (arith, h, e))

  below : (i : ℕ) → i < event → i ≡ event → ⊥
  below i h e = absurd (omega (arith, h, e))

  by : (i : ℕ) → (i < event) ⊎ (event ≤ i) → i < event + 1 → (if i == event then (slice_index_or mid i false || here) else slice_index_or mid i false) ≡ (slice_index_or before i false || slice_index_or more i false)
  by i (inl less) h = ap (λ b. if b then (slice_index_or mid i false || here) else slice_index_or mid i false) (differ i event (below i less)) ∙ so.done i less
  by i (inr from) h =
      let same : i ≡ event = omega (arith, from, h) in
      ap (λ b. if b then (slice_index_or mid i false || here) else slice_index_or mid i false) (eq-eqb i event same)
      ∙ ap (λ b. b || here) (so.rest i from) ∙ ap (λ b. slice_index_or before i false || b) (is ∙ ap (λ n. slice_index_or more n false) (sym same))
