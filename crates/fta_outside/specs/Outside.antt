-- What is known of the outside: counts of faults, and the bytes that a sink took.
use Rattle.std.specs.Prelude.{◌≡◌, ℕ, ◌<◌, ◌≤◌, ◌⊎◌, List, ◌++◌, length, take, Option, option_map}

-- A count rose in a call if it is greater after the call than before it, or stands after it at the last value of a counter.
abbrev pub Rose : ℕ → ℕ → Type 0
Rose before after = (before < after) ⊎ (after ≡ 18446744073709551615)

-- what was taken, with these bytes after it, where it is told
abbrev pub with_bytes : Option (List ℕ) → List ℕ → Option (List ℕ)
with_bytes taken bytes = option_map (λ before. before ++ bytes) taken

-- What is seen of a sink: the bytes that it took so far, where that is told, and how often a write failed.
pub record Seen : Type 0 where
  pub taken : Option (List ℕ)
  pub faults : ℕ

-- The text was taken.
abbrev pub Took : List ℕ → Seen → Seen → Type 0
Took text before after = after.taken ≡ with_bytes before.taken text

-- Some bytes of the front of a text were taken, and no others.
abbrev pub TookPrefix : List ℕ → Seen → Seen → Type 0
TookPrefix text before after = (count : ℕ) × (count ≤ length text) × Took (take count text) before after
