use Rattle.std.proofs.Common.{◌≡◌, ◌++◌, ◌∷◌, [], ℕ, List, Option, None, OnOk, sym, ap, ◌∙◌, subst}
use Rattle.fta_words.specs.declared.kind.Kind.{Kind}
use Rattle.fta_words.specs.Table.{kind_named}
use Rattle.help_texts.specs.inner.Usage.{call_text, usage_text}
use Rattle.help_texts.proofs.usage.push_usage.Goals as goal

-- what is said of words of which the first is no command
no_command : (words : List (List ℕ)) (name item : List ℕ) (others : List (List ℕ)) (named : Option Kind) → words ≡ item ∷ others → name ≡ item → named ≡ kind_named name → named ≡ None → call_text None name [] ≡ usage_text words
no_command words name item others named are is found none =
    ap (λ k. call_text k name others) (sym none ∙ found) ∙ ap (λ n. usage_text (n ∷ others)) is ∙ ap usage_text (sym are)

pub returns-in-None : goal.returns-in-None
returns-in-None c =
    subst (λ (l : List ℕ). OnOk c.push_no_command.result (c.push_no_command.new.text.items ≡ c.args.text.now.items ++ l))
    (no_command c.args.words.now c.items-name.result.now c.in-Some.name.now c.in-Some.words.now c.kind_named.result c.in-Some.ensures.cases.0 c.items-name.ensures.items c.kind_named.ensures c.in-None.is)
    c.push_no_command.ensures
