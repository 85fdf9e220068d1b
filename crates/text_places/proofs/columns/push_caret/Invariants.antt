use Rattle.std.proofs.Common.{◌≡◌, ◌++◌, map, take}
use Rattle.text_places.specs.Places.{below}
use Rattle.text_places.proofs.columns.push_caret.Given as goal

abbrev pub invariant-loop-character : goal.invariant-loop-character
invariant-loop-character l = l.text.items ≡ l.initial.text.items ++ map below (take l.character-index l.before)
