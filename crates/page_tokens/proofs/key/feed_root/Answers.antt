use Rattle.std.proofs.Common.{ℕ, List, ◌++◌, codes, subst}
use Rattle.page_tokens.specs.Keys.{dotted, joined}
use Rattle.page_tokens.proofs.Keys.{fed_two}
use Rattle.page_tokens.proofs.key.feed_root.Goals as goal

pub returns : goal.returns
returns g c = λ m holds.
    let root = c.args.root.now in
    fed_two g.D.Digest.holds _ m (joined root.names ++ dotted root.item) (codes "\n") (c.feed.ensures _ (fed_two g.D.Digest.holds _ m (joined root.names) (dotted root.item) (c.feed_item.ensures _ (subst (λ (names : List (List ℕ)). g.D.Digest.holds c.feed_names.new.hasher (m ++ joined names)) c.items.ensures.items (c.feed_names.ensures m holds)))))
