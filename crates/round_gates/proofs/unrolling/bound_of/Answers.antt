use Rattle.std.proofs.Common.{◌<◌, ℕ, get_or, arith, subst}
use Rattle.std.proofs.lemmas.List.{get_or_default}
use Rattle.dependency_blocks.specs.Blocks.{number_of}
use Rattle.round_gates.proofs.Gathering.{block-below, by_index}
use Rattle.round_gates.proofs.unrolling.bound_of.Goals as goal

pub loop-fact-preserved : goal.loop-fact-preserved
loop-fact-preserved c = λ k d less. by_index (λ (i : ℕ). number_of c.args.blocks.now (get_or c.args.facts.now i d) < 4294967295 → number_of c.args.blocks.now (get_or c.args.facts.now i d) < c.above-bound.result) k c.loop-fact.fact-index less
    (λ before inside. let old : number_of c.args.blocks.now (get_or c.args.facts.now k d) < c.loop-fact.bound = c.loop-fact.invariant k d before inside in omega (arith, c.above-bound.ensures.bound))
    (subst (λ (fact : ℕ). number_of c.args.blocks.now fact < 4294967295 → number_of c.args.blocks.now fact < c.above-bound.result)
    (get_or_default c.args.facts.now c.loop-fact.fact-index _ d c.loop-fact-test.true)
    (block-below c.block_of.result _ c.above-bound.result c.block_of.ensures c.above-bound.ensures.block))

pub returns : goal.returns
returns c = record { above = λ k d less inside. c.loop-fact.invariant k d (omega arith) inside }
