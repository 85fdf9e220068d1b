use Rattle.std.proofs.Common.{◌≡◌, Bor, List, ℕ, take, true}
use Rattle.std.specs.List.{AllByRecursion}
use Rattle.fta_words.specs.Table.{flags_of, valued_of}
use Rattle.fta_words.specs.Words.{Given, is_given, option_words}
use Rattle.fta_words.specs.inner.Reading.{Allowed}
use Rattle.fta_words.proofs.options.are_given.Given as goal

abbrev pub invariant-loop-name : goal.invariant-loop-name
invariant-loop-name l =
    (given : List Given) → l.words ≡ option_words given → Allowed (flags_of l.kind) (valued_of l.kind) given
    → AllByRecursion (λ (name : Bor (List ℕ)). is_given name.now given ≡ true) (take l.name-index l.names)
