use Rattle.page_tokens.proofs.token.check_key.Goals as goal

pub returns-in-Some : goal.returns-in-Some
returns-in-Some c = rw c.in-Some.is (c.check_digits.ensures c.args.token.now.rest.now)
