use Rattle.std.proofs.Common.{ℕ, List, [], ◌++◌, ap, ◌∙◌}
use Rattle.hex.specs.Hex.{encode_lower}
use Rattle.sha2.specs.Sha256.{sha256}
use Rattle.page_tokens.specs.Keys.{files_text, line, order_text, profile_text, root_text}
use Rattle.page_tokens.proofs.key.page_digest.Goals as goal

pub returns : goal.returns
returns c =
    c.digits_of.ensures ∙ ap encode_lower (c.finalize.ensures _ (c.feed_files.ensures _ (c.feed_order.ensures _ (c.feed_line.ensures _ (c.feed_root.ensures _ (c.feed_profile.ensures [] c.new-hasher.ensures))))))
    ∙ ap (λ (target : List ℕ). encode_lower (sha256 (profile_text c.args.profile ++ line (root_text c.args.root.now) ++ line target ++ line (order_text c.args.max_order) ++ files_text c.args.files.now))) c.items.ensures.items
