use Rattle.std.proofs.Common.{ℕ, List, ap, ◌∙◌}
use Rattle.dot_writer.specs.declared.usages.Usage.{Usage}
use Rattle.dot_writer.specs.Picture.{picture_text}
use Rattle.dot_writer.specs.TreePicture.{heads_of, sheet_picture}
use Rattle.dot_writer.proofs.dot_lines.DotLines.new.Goals as goal

pub returns : goal.returns
returns c =
    let text : List Usage → List ℕ → List ℕ
    = λ usages heads. picture_text (sheet_picture (record { system = c.args.system; tree = c.args.tree; rates = c.args.rates; title = c.args.title; usages = usages; heads = heads })) in
    record { text = ap (text c.in_ok-usages.usages) c.in_ok-heads.ensures ∙ ap (λ usages. text usages (heads_of usages)) c.in_ok-usages.ensures }
