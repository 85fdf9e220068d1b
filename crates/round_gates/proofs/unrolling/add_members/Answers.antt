use Rattle.std.proofs.Common.{◌<◌, ℕ, length, get_or, arith, rules}
use Rattle.round_gates.proofs.Gathering.{members-next}
use Rattle.round_gates.proofs.unrolling.add_members.Goals as goal

pub loop-fact-preserved : goal.loop-fact-preserved
loop-fact-preserved c = λ block less small.
    let here : block < length c.loop-fact.lists = omega arith in
    let fact : ℕ = get_or c.args.facts.now c.loop-fact.fact-index 0 in
    members-next c.args.blocks.now block c.args.facts.now c.loop-fact.fact-index fact _ _ c.loop-fact-test.true (search rules) (c.in_ok-add_member.ensures.added block here small) (c.loop-fact.invariant block less small)
