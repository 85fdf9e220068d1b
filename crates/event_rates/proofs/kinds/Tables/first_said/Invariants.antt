use Rattle.std.proofs.Common.{◌≡◌, drop}
use Rattle.event_rates.specs.Associations.{first_said, keys_at}
use Rattle.event_rates.proofs.kinds.Tables.first_said.Given as goal

abbrev pub invariant-loop-key : goal.invariant-loop-key
invariant-loop-key l = first_said l.self.profile l.self.instance l.owner l.own (drop l.key-index l.keys) ≡ first_said l.self.profile l.self.instance l.owner l.own (keys_at l.self.profile l.self.instance l.owner)
