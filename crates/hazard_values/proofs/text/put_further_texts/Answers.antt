use Rattle.std.proofs.Common.{sym, ◌++◌, flat_map, drop}
use Rattle.aadl_syntax.specs.inner.Token.{shown}
use Rattle.hazard_values.specs.Texts.{further_text}
use Rattle.hazard_values.proofs.Left.{further-there}
use Rattle.hazard_values.proofs.text.put_further_texts.Goals as goal

pub loop-number-preserved : goal.loop-number-preserved
loop-number-preserved c =
    further-there c.args.tokens.now c.loop-number.number (shown c.in-Some.token) (sym c.in-Some.ensures.value) c.loop-number.text c.put_further_text.new.text
    (c.args.text.now ++ flat_map further_text (drop 1 c.args.tokens.now)) c.in_ok-put_further_text.ensures c.loop-number.invariant
