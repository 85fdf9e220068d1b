use Rattle.std.proofs.Common.{◌≡◌, List, ℕ, [], IfOk, get_or, ap, subst, ◌∙◌}
use Rattle.fta_words.specs.inner.Shown.{request_shown}
use Rattle.explained_calls.specs.inner.Texts.{IsNearAt, name_at}
use Rattle.explained_calls.proofs.near.near_at.Goals as goal

pub returns : goal.returns
returns c =
    let name : c.items.result.now ≡ name_at (get_or c.args.texts.now c.args.file []) c.args.at =
    c.items.ensures.items ∙ c.in_ok-name.ensures ∙ ap (λ (text : List ℕ). name_at text c.args.at) c.text_at.ensures in
    subst (λ (n : List ℕ). IfOk c.near_name.result (λ near. IsNearAt (request_shown c.args.asked.now) c.args.texts.now c.args.code c.args.file n near.items)) name c.near_name.ensures
