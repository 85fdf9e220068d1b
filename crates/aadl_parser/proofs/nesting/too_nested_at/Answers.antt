use Rattle.std.proofs.Common.{◌<◌, ◌≤◌, length, arith}
use Rattle.aadl_syntax.specs.declared.token.Token.{Token}
use Rattle.aadl_syntax.specs.inner.Token.{shown}
use Rattle.aadl_parser.specs.Nesting.{nesting_limit}
use Rattle.grammar_rules.proofs.Runs.{item_there}
use Rattle.aadl_parser.proofs.Depths.{is_nested, one_on}
use Rattle.aadl_parser.proofs.nesting.too_nested_at.Goals as goal

pub returns-then-count-gt-NESTING_LIMIT : goal.returns-then-count-gt-NESTING_LIMIT
returns-then-count-gt-NESTING_LIMIT c =
    let token : Token = shown c.in-Some.token in
    let within : c.loop-k.k < length c.args.tokens.now = let h = c.loop-k-test.true in omega arith in
    is_nested c.loop-k.invariant within (item_there c.args.tokens.now c.loop-k.k token c.in-Some.ensures.value) c.after_token-count.ensures c.if-count-gt-NESTING_LIMIT.true

pub loop-k-preserved : goal.loop-k-preserved
loop-k-preserved c =
    let token : Token = shown c.in-Some.token in
    let within : c.loop-k.k < length c.args.tokens.now = let h = c.loop-k-test.true in omega arith in
    let few : c.after_token-count.result ≤ nesting_limit = let h = c.if-count-gt-NESTING_LIMIT.false in omega arith in
    one_on c.loop-k.invariant within (item_there c.args.tokens.now c.loop-k.k token c.in-Some.ensures.value) c.after_token-count.ensures few
