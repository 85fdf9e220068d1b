use Rattle.std.proofs.Common.{◌+◌, ◌-◌, ◌≡◌, ◌≤◌, drop, length}
use Rattle.galileo_reader.specs.WideTokens.{pieces_len, wide_gap_len}
use Rattle.galileo_reader.proofs.gaps.wide_gap_len.Given as goal

abbrev pub invariant-loop : goal.invariant-loop
invariant-loop l = record {
  within : l.at ≤ length l.text;
  so : l.at + pieces_len (length l.text - l.counter) (drop l.at l.text) ≡ wide_gap_len l.text;
}
