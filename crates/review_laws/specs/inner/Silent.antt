-- Facts that a review tells as such that never come about.
use Rattle.std.specs.Prelude.{ℕ, ◌==◌, Bool, false, List, ◌++◌}
use Rattle.std.specs.List.{list_any}
use Rattle.std.specs.Option.{option_map_or}
use Rattle.propagation_links.specs.declared.link.PointAt.{PointAt}
use Rattle.model_facts.specs.Assembly.{model_at}
use Rattle.fault_system.specs.Truth.{NumberSet}
use Rattle.model_review.specs.Findings.{dry_sides, never_out, never_states, of_components}
use Rattle.model_review.specs.Seen.{Seen, number_at, state_number}
use Rattle.model_review.specs.declared.finding.Finding.{Finding}
use Rattle.model_review.specs.declared.finding.Finding.TheVariants.{Dry, Never, NeverState}

-- whether a fact is that one of these types is at a side
abbrev pub is_at : Seen → PointAt → List ℕ → NumberSet
is_at seen side types n = list_any (λ type. option_map_or (λ number. number == n) (number_at seen side type) false) types

-- whether a finding tells that a fact never comes about
abbrev pub tells_silent : Seen → ℕ → Finding → Bool
tells_silent seen n (Dry at) = is_at seen at.side at.types n
tells_silent seen n (Never at) = is_at seen at.side at.types n
tells_silent seen n (NeverState state) = option_map_or (λ number. number == n) (state_number seen 0 state) false
tells_silent seen n finding = false

-- the lines `dry` and `never`
abbrev pub silent_findings : Seen → List Finding
silent_findings seen =
    of_components seen (dry_sides seen) ++ (of_components seen (never_out seen) ++ never_states seen (model_at seen.numbered.assembly 0))

-- the facts that they name
abbrev pub silent_facts : Seen → NumberSet
silent_facts seen n = list_any (tells_silent seen n) (silent_findings seen)
