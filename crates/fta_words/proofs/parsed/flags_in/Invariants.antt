use Rattle.std.proofs.Common.{◌≡◌, ◌++◌, List, drop, filter, map}
use Rattle.clap.specs.Words.{found_of, rows_of}
use Rattle.fta_words.specs.Words.{Given, is_given}
use Rattle.fta_words.specs.inner.Parsed.{StandIn}
use Rattle.fta_words.proofs.parsed.flags_in.Given as goal

abbrev pub invariant-loop-name : goal.invariant-loop-name
invariant-loop-name l =
    (given : List Given) → StandIn (rows_of (found_of l.matches)) given
    → l.flags ++ filter (λ name. is_given name given) (map (λ name. name.now) (drop l.name-index l.fn.names)) ≡ filter (λ name. is_given name given) (map (λ name. name.now) l.fn.names)
