use Rattle.std.proofs.Common.{◌≡◌, ◌<◌, ◌^◌, drop}
use Rattle.requirements.specs.Sentences.{digits_from}
use Rattle.requirements.proofs.number.digits_of.Given as goal

abbrev pub invariant-loop-digit : goal.invariant-loop-digit
invariant-loop-digit l = record {
  value : digits_from l.number (drop l.digit-index l.text) ≡ digits_from 0 l.text;
  below : l.number < 10 ^ l.digit-index;
}
