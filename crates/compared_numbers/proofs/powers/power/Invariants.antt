use Rattle.std.proofs.Common.{◌^◌, ◌≡◌}
use Rattle.compared_numbers.proofs.powers.power.Given as goal

abbrev pub invariant-loop-step : goal.invariant-loop-step
invariant-loop-step l = l.value ≡ 10 ^ l._step
