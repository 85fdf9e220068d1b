use Rattle.std.proofs.Common.{◌≡◌, ℕ, List, [], IfOk, map, sym, ap, subst, ◌∙◌}
use Rattle.near_names.specs.inner.Near.{near_text}
use Rattle.explained_calls.specs.inner.Texts.{package_part}
use Rattle.explained_calls.proofs.Choices.{first_text, no_words, other_text, some_words}
use Rattle.explained_calls.proofs.named.near_either.Goals as goal

pub returns-then-is_empty : goal.returns-then-is_empty
returns-then-is_empty c =
    let names = map (λ name. name.now) c.args.names.now in
    let none = sym c.in_ok-near.ensures ∙ sym c.as_slice.ensures.value ∙ no_words c.as_slice.result.now (sym c.is_empty.ensures ∙ c.if-is_empty.true) in
    subst (λ (l : List ℕ). IfOk c.near_among-then-is_empty.result (λ near. near.items ≡ l))
    (ap (λ (part : List ℕ). near_text [] part names) c.package_part.ensures ∙ other_text (near_text [] c.args.name.now names) (near_text [] (package_part c.args.name.now) names) none) c.near_among-then-is_empty.ensures

pub returns : goal.returns
returns c =
    let names = map (λ name. name.now) c.args.names.now in
    let some = some_words c.as_slice.result.now (sym c.is_empty.ensures ∙ c.if-is_empty.false) in
    c.in_ok-near.ensures
    ∙ first_text (near_text [] c.args.name.now names) (near_text [] (package_part c.args.name.now) names) (λ none. some (c.as_slice.ensures.value ∙ c.in_ok-near.ensures ∙ none))
