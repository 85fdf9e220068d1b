use Rattle.std.proofs.Common.{◌≡◌, ◌+◌, take}
use Rattle.std.specs.Prelude.{not}
use Rattle.std.specs.List.{suffix_len}
use Rattle.text_places.specs.Places.{is_feed}
use Rattle.text_places.proofs.lines.line_begin.Given as goal

abbrev pub invariant-loop-number : goal.invariant-loop-number
invariant-loop-number l = l.begin + suffix_len (λ byte. not (is_feed byte)) (take l.number l.text) ≡ l.number
