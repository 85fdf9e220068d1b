use Rattle.requirement_names.specs.Wrong.{wrong_token}
use Rattle.requirement_names.proofs.Loops.{noting-more}
use Rattle.requirement_names.proofs.wrong.note_tokens.Goals as goal

pub loop-token-preserved : goal.loop-token-preserved
loop-token-preserved c =
    noting-more c.args.tokens.now c.loop-token.token-index c.token-item.result c.loop-token-test.true c.token-item.is (wrong_token c.args.model.now) c.loop-token.first _ _ c.in_ok-note_token.ensures c.loop-token.invariant
