use Rattle.std.proofs.Common.{◌≡◌, ◌<◌, ◌^◌, take}
use Rattle.std.specs.List.{AllByRecursion}
use Rattle.fta_words.specs.Words.{IsDigit, number_of}
use Rattle.fta_words.proofs.number.number_of.Given as goal

abbrev pub invariant-loop-digit : goal.invariant-loop-digit
invariant-loop-digit l =
    record {
      value : l.number ≡ number_of (take l.digit-index l.text);
      below : l.number < 10 ^ l.digit-index;
      digits : AllByRecursion IsDigit (take l.digit-index l.text);
    }
