use Rattle.std.proofs.Common.{◌≡◌, map, take}
use Rattle.fta_words.specs.Table.{name_of}
use Rattle.help_texts.proofs.usage.names_of.Given as goal

abbrev pub invariant-loop-kind : goal.invariant-loop-kind
invariant-loop-kind l = map (λ name. name.now) l.names.items ≡ map name_of (take l.kind-index l.kinds)
