use Rattle.std.proofs.Common.{◌≡◌, List, length}
use Rattle.fta_words.specs.Words.{Given, is_given, option_words}
use Rattle.fta_words.specs.Table.{flags_of, valued_of}
use Rattle.fta_words.specs.inner.Reading.{Allowed}
use Rattle.fta_words.proofs.options.is_given.Given as goal

abbrev pub invariant-loop-next : goal.invariant-loop-next
invariant-loop-next l =
    (given : List Given) → l.words ≡ option_words given → Allowed (flags_of l.kind) (valued_of l.kind) given
    → (left : List Given) × (l.rest ≡ option_words left) × Allowed (flags_of l.kind) (valued_of l.kind) left × (is_given l.name given ≡ is_given l.name left)

abbrev pub decreases-loop-next : goal.decreases-loop-next
decreases-loop-next l = length l.rest
