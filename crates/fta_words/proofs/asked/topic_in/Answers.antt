use Rattle.std.proofs.Common.{◌≡◌, ◌≤◌, ◌<◌, List, ℕ, ◌∷◌, [], length, get_or, ◌∙◌, sym, ap, arith}
use Rattle.fta_words.proofs.EachKind.{named_so}
use Rattle.fta_words.proofs.asked.topic_in.Goals as goal

one_word : (words : List (List ℕ)) (word : List ℕ) → 1 ≤ length words → length words < 2 → word ≡ get_or words 0 word → words ≡ word ∷ []
one_word [] word some few is = absurd (omega (arith, some))
one_word (first ∷ []) word some few is = ap (λ w. w ∷ []) (sym is)
one_word (first ∷ next ∷ words) word some few is = absurd (omega (arith, few))

pub returns-in_ok-kind_named-in-len1 : goal.returns-in_ok-kind_named-in-len1
returns-in_ok-kind_named-in-len1 c =
    let is = named_so c.items.result.now c.in_ok-kind_named-in-len1.field-0 (sym c.in_ok-kind_named-in-len1.ensures) in
    one_word c.args.words.now c.name-item.result c.in-len1.len_at_least c.in-len1.len_below c.name-item.is ∙ ap (λ word. word ∷ []) (sym c.items.ensures.items ∙ is)
