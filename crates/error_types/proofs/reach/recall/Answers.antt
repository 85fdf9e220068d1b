use Rattle.std.proofs.Common.{◌∙◌}
use Rattle.error_types.proofs.SettleLaws.{recalled}
use Rattle.error_types.proofs.reach.recall.Goals as goal

pub returns : goal.returns
returns c = recalled c.args.declarations.now c.args.memory.now c.requires c.args.id c.copied.result (c.copied.ensures ∙ c.get.ensures.value)
