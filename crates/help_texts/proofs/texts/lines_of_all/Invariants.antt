use Rattle.std.proofs.Common.{◌≡◌, take}
use Rattle.std.specs.List.{flat_map}
use Rattle.help_texts.specs.Texts.{line_of}
use Rattle.help_texts.proofs.texts.lines_of_all.Given as goal

abbrev pub invariant-loop-kind : goal.invariant-loop-kind
invariant-loop-kind l = l.text.items ≡ flat_map line_of (take l.kind-index l.fn.kinds)
