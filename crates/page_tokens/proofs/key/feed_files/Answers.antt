use Rattle.std.proofs.Common.{decimal, length}
use Rattle.std.specs.List.{flat_map}
use Rattle.page_tokens.specs.Keys.{file_text, line}
use Rattle.page_tokens.proofs.Keys.{fed_two}
use Rattle.page_tokens.proofs.key.feed_files.Goals as goal

pub returns : goal.returns
returns g c = λ m holds.
    let files = c.args.files.now in
    fed_two g.D.Digest.holds _ m (line (decimal (length files))) (flat_map file_text files) (c.feed_each.ensures _ (c.feed_number.ensures m holds))
