use Rattle.std.proofs.Common.{◌≡◌, ◌<◌, ℕ, false, get_or}
use Rattle.text_places.specs.Places.{is_feed}
use Rattle.text_places.proofs.lines.first_line.Given as goal

abbrev pub invariant-loop-number : goal.invariant-loop-number
invariant-loop-number l = (k : ℕ) → k < l.number → is_feed (get_or l.text k 0) ≡ false
