use Rattle.std.proofs.Common.{◌≡◌, ◌++◌, take}
use Rattle.std.specs.List.{flat_map}
use Rattle.help_texts.specs.inner.Usage.{option_text}
use Rattle.help_texts.proofs.usage.push_options.Given as goal

abbrev pub invariant-loop-word : goal.invariant-loop-word
invariant-loop-word l = l.text.items ≡ l.initial.text.items ++ flat_map (option_text l.kind) (take l.word-index l.words)
