use Rattle.dependency_blocks.proofs.Passes.{blocks_are}
use Rattle.dependency_blocks.proofs.finding.are_right.Goals as goal

pub returns : goal.returns
returns c =
    λ all. blocks_are c.args.system.now c.args.facts.now c.args.numbers.now c.as_slice-leaders.result.now c.in_ok-leads.leads c.in_ok-comes.comes (λ n. (c.all_numbered.ensures c.if-not-all_numbered.false n, c.requires n)) (c.fall.ensures c.if-not-fall.false)
    c.in_ok-leads.ensures c.in_ok-comes.ensures (c.all_marked.ensures c.if-not-all_marked.false) (c.all_marked-2.ensures all)
