use Rattle.std.proofs.Common.{◌≡◌, ◌∷◌, ◌++◌, [], OnOk, List, ℕ, ap, ◌∙◌, subst}
use Rattle.file_digests.specs.Digests.{digest_text, digest_texts}
use Rattle.file_digests.proofs.Lines.{as_texts, none_of_names, none_of_texts}
use Rattle.file_digests.proofs.+add_digests.Goals as goal

pub returns-in_default : goal.returns-in_default
returns-in_default t c = none_of_names c.args.lines.now c.args.names.now c.args.texts.now c.in_default.ensures.cases

pub returns-in_default-split_first : goal.returns-in_default-split_first
returns-in_default-split_first t c = none_of_texts c.args.lines.now c.args.names.now c.args.texts.now c.in_default-split_first.ensures.cases

pub returns : goal.returns
returns t c =
    let name = c.in-Some.name.now in
    let file = c.in-Some-split_first.file.now in
    let line : c.in_ok-line.line ≡ digest_text name file =
    c.in_ok-line.ensures ∙ ap (λ (l : List ℕ). digest_text l c.items-2.result.now) c.items.ensures.items ∙ ap (λ (l : List ℕ). digest_text name l) c.items-2.ensures.items in
    let its : c.push.new.self ≡ c.args.lines.now ++ digest_text name file ∷ [] = c.in_ok-push.ensures.ok ∙ ap (λ (l : List ℕ). c.args.lines.now ++ l ∷ []) line in
    subst (λ (l : List (List ℕ)). OnOk c.add_digests.result (c.add_digests.new.lines ≡ l))
    (ap (λ (l : List (List ℕ)). l ++ digest_texts c.in-Some.names.now c.in-Some-split_first.texts.now) its
    ∙ as_texts c.args.lines.now c.args.names.now c.args.texts.now name file c.in-Some.names.now c.in-Some-split_first.texts.now c.in-Some.ensures.cases.0 c.in-Some-split_first.ensures.cases.0)
    c.add_digests.ensures
