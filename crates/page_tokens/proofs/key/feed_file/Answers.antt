use Rattle.std.proofs.Common.{decimal, length}
use Rattle.page_tokens.specs.Keys.{line}
use Rattle.page_tokens.proofs.Keys.{fed_two}
use Rattle.page_tokens.proofs.key.feed_file.Goals as goal

pub returns : goal.returns
returns g c = λ m holds. fed_two g.D.Digest.holds _ m (line (decimal (length c.args.file.now))) c.args.file.now (c.feed.ensures _ (c.feed_number.ensures m holds))
