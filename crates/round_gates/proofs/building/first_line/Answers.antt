use Rattle.std.proofs.Common.{◌∙◌, Some, None}
use Rattle.round_gates.proofs.Reaches.{line-at}
use Rattle.round_gates.proofs.building.first_line.Goals as goal

pub returns-in-Some : goal.returns-in-Some
returns-in-Some c =
    c.line_at.ensures ∙ line-at c.args.lines.now c.args.key (Some c.in-Some.place.now) (c.in-Some.ensures.value ∙ c.requires c.args.key)

pub returns-in-None : goal.returns-in-None
returns-in-None c = line-at c.args.lines.now c.args.key None (c.in-None.ensures.value ∙ c.requires c.args.key)
