-- Two lists of one length, of which some places were chosen.
use Rattle.std.specs.Prelude.{ℕ, ◌≡◌, ◌==◌, List, Option, Some, None, Bool, true, false, slice_get}
use Rattle.std.specs.List.{list_any}

-- these two are there, and so; or neither is there
abbrev pub Both : {R : Type 0} → (R → R → Type 0) → Option R → Option R → Type 0
Both P None None = Unit {0}
Both P None (Some after) = ⊥
Both P (Some before) None = ⊥
Both P (Some before) (Some after) = P before after

-- The lists are of one length, and at each place their two items are so.
abbrev pub AtEach : {R : Type 0} → (ℕ → R → R → Type 0) → List R → List R → Type 0
AtEach P before after = (i : ℕ) → Both (P i) (slice_get before i) (slice_get after i)

-- they are so if the test is true, and the same if not
abbrev pub SoOrSame : {R : Type 0} → Bool → (R → R → Type 0) → R → R → Type 0
SoOrSame true P before after = P before after
SoOrSame false P before after = after ≡ before

-- whether a number is among these
abbrev pub is_among : List ℕ → ℕ → Bool
is_among numbers number = list_any (λ n. number == n) numbers

-- The lists are of one length: their two items are so at each place that is among the chosen, and the same at each other.
abbrev pub AtChosen : {R : Type 0} → List ℕ → (R → R → Type 0) → List R → List R → Type 0
AtChosen chosen P before after = AtEach (λ i. SoOrSame (is_among chosen i) P) before after
