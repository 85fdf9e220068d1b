use Rattle.std.proofs.Common.{◌≡◌, ◌<◌, ◌^◌, take}
use Rattle.emv2_parts.specs.Words.{decimal}
use Rattle.emv2_parts.proofs.words.decimal.Given as goal

abbrev pub invariant-loop-digit : goal.invariant-loop-digit
invariant-loop-digit l = record { value : l.number ≡ decimal (take l.digit-index l.digits); below : l.number < 10 ^ l.digit-index }
