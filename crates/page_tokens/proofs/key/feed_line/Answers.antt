use Rattle.std.proofs.Common.{codes}
use Rattle.page_tokens.proofs.Keys.{fed_two}
use Rattle.page_tokens.proofs.key.feed_line.Goals as goal

pub returns : goal.returns
returns g c = λ m holds. fed_two g.D.Digest.holds _ m c.args.text.now (codes "\n") (c.feed-2.ensures _ (c.feed.ensures m holds))
