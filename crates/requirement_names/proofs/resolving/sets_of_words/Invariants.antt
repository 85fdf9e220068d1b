use Rattle.std.proofs.Common.{◌≡◌, map, take}
use Rattle.requirement_names.specs.Named.{set_of_word}
use Rattle.requirement_names.proofs.resolving.sets_of_words.Given as goal

abbrev pub invariant-loop-token : goal.invariant-loop-token
invariant-loop-token l = l.sets ≡ map (set_of_word l.model) (take l.token-index l.tokens)
