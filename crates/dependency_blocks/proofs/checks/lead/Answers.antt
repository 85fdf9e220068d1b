use Rattle.dependency_blocks.proofs.Passes.{lead-put}
use Rattle.dependency_blocks.proofs.checks.lead.Goals as goal

pub returns-then-leads : goal.returns-then-leads
returns-then-leads c = lead-put c.args.system.now c.args.numbers.now c.args.leaders.now c.args.marks.now c.put.new.self c.args.number c.requires c.put.ensures (c.leads.ensures c.if-leads.true)
