use Rattle.std.proofs.Common.{arith}
use Rattle.fta_words.specs.Words.{is_given}
use Rattle.fta_words.proofs.FlagSteps.{flags_more}
use Rattle.fta_words.proofs.parsed.flags_in.Goals as goal

pub loop-name-preserved : goal.loop-name-preserved
loop-name-preserved c = λ given stand.
    flags_more (λ name. is_given name given) c.args.names.now c.loop-name.name-index _ (let h = c.loop-name-test.true in omega arith) c.loop-name.flags _ _ (c.in_ok-add_flag.ensures given stand) (c.loop-name.invariant given stand)
