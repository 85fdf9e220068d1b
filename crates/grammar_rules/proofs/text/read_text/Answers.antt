use Rattle.grammar_rules.proofs.Texts.{is_found, is_only, is_dead, is_none, stops_dead}
use Rattle.grammar_rules.proofs.text.read_text.Goals as goal

pub returns-in-Ok-clause-found : goal.returns-in-Ok-clause-found
returns-in-Ok-clause-found g c = is_found (record { file_is = c.new-reader.ensures.file; tokens_are = c.new-reader.ensures.tokens }) c.in-Ok.ensures

pub returns-in-Ok-clause-only : goal.returns-in-Ok-clause-only
returns-in-Ok-clause-only g c = λ other r. is_only (record { file_is = c.new-reader.ensures.file; tokens_are = c.new-reader.ensures.tokens }) c.in-Ok.ensures other r

pub returns-in-Err-Refused-clause-only : goal.returns-in-Err-Refused-clause-only
returns-in-Err-Refused-clause-only g c = λ other r. absurd (is_none (record { file_is = c.new-reader.ensures.file; tokens_are = c.new-reader.ensures.tokens }) (rw c.in-Err-Refused.field-0-is at c.in-Err-Refused.ensures) other r)

pub returns-in-Err-Refused-clause-dead : goal.returns-in-Err-Refused-clause-dead
returns-in-Err-Refused-clause-dead g c =
    let gave = rw c.in-Err-Refused.field-0-is at c.in-Err-Refused.ensures in
    let dead = is_dead (record { file_is = c.new-reader.ensures.file; tokens_are = c.new-reader.ensures.tokens }) gave in
    stops_dead c.args.file g.G.Grammar.rule c.args.tokens.now c.args.end c.unseen.result c.whole.new.reader.unseen c.syntax_error.result c.unseen.ensures c.syntax_error.ensures dead
