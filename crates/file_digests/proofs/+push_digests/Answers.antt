use Rattle.std.proofs.Common.{◌≡◌, ◌++◌, OnOk, List, ℕ, ap, ◌∙◌, subst}
use Rattle.file_digests.specs.Digests.{digest_line, digest_lines}
use Rattle.file_digests.proofs.Lines.{as_lines, no_names, no_texts}
use Rattle.file_digests.proofs.+push_digests.Goals as goal

pub returns-in_default : goal.returns-in_default
returns-in_default t c = no_names c.args.text.now.items c.args.names.now c.args.texts.now c.in_default.ensures.cases

pub returns-in_default-split_first : goal.returns-in_default-split_first
returns-in_default-split_first t c = no_texts c.args.text.now.items c.args.names.now c.args.texts.now c.in_default-split_first.ensures.cases

pub returns : goal.returns
returns t c =
    let its : c.push_digest.new.text.items ≡ c.args.text.now.items ++ digest_line c.in-Some.name.now c.in-Some-split_first.file.now =
    c.in_ok-push_digest.ensures ∙ ap (λ (l : List ℕ). c.args.text.now.items ++ digest_line l c.items-2.result.now) c.items.ensures.items ∙ ap (λ (l : List ℕ). c.args.text.now.items ++ digest_line c.in-Some.name.now l) c.items-2.ensures.items in
    subst (λ (l : List ℕ). OnOk c.push_digests.result (c.push_digests.new.text.items ≡ l))
    (ap (λ (l : List ℕ). l ++ digest_lines c.in-Some.names.now c.in-Some-split_first.texts.now) its
    ∙ as_lines c.args.text.now.items c.args.names.now c.args.texts.now c.in-Some.name.now c.in-Some-split_first.file.now c.in-Some.names.now c.in-Some-split_first.texts.now c.in-Some.ensures.cases.0 c.in-Some-split_first.ensures.cases.0)
    c.push_digests.ensures
