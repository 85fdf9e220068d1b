use Rattle.std.proofs.Common.{◌≡◌, drop, map, take}
use Rattle.noted_refusals.specs.Groups.{first_group}
use Rattle.error_models.specs.Models.{model_of}
use Rattle.error_models.specs.Refused.{model_group, models_group}
use Rattle.error_models.proofs.models.models_of.Given as goal

abbrev pub invariant-loop-number : goal.invariant-loop-number
invariant-loop-number l = record {
  kept : l.reading.types ≡ l.fn.reading.types;
  models : l.models ≡ map (model_of l.fn.reading.types l.instance.kinds) (take l.number l.instance.kinds);
  left : first_group (map (model_group l.fn.reading.types l.instance.kinds) (drop l.number l.instance.kinds)) ≡ models_group l.fn.reading.types l.instance.kinds;
}
