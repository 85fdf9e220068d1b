use Rattle.std.proofs.Common.{◌∙◌, arith, sym}
use Rattle.target_orders.proofs.LargeLaws.{large-block, large-step}
use Rattle.target_orders.proofs.settling.depends_on_large.Goals as goal

pub returns-then-are_one_block : goal.returns-then-are_one_block
returns-then-are_one_block c _ =
    let one = c.are_one_block.ensures c.if-are_one_block.true in
    large-block c.args.system.now c.facts.ensures.system c.args.blocks.now c.requires.numbered c.args.fact c.args.last (omega (arith, c.if-fact-facts.false, c.facts.ensures.count)) one.0 one.1
    (c.requires.large c.args.last (sym c.has.ensures ∙ c.if-has.true))

pub returns-in-Some : goal.returns-in-Some
returns-in-Some c there =
    let found = c.has_large.ensures there in
    large-step c.args.system.now c.facts.ensures.system c.args.fact found.0 c.in-Some.info.now (omega (arith, c.if-fact-facts.false, c.facts.ensures.count)) (sym c.in-Some.ensures) found.1
    (c.requires.large found.0 found.2)
