use Rattle.std.proofs.Common.{◌≡◌, ◌∷◌, drop, length, sym, ap, subst, ◌∙◌, le_refl, rules}
use Rattle.std.proofs.lemmas.Slice.{between_to_end}
use Rattle.std.specs.List.{AllByRecursion}
use Rattle.std.proofs.lemmas.Bool.{false≢true}
use Rattle.std.proofs.lemmas.Result.{IfOk-weaker}
use Rattle.fta_words.specs.Table.{name_of}
use Rattle.fta_words.specs.Words.{IsPlainWord, before_options}
use Rattle.fta_words.specs.inner.Reading.{ReadsAs}
use Rattle.fta_words.proofs.AllKinds.{name_is_plain}
use Rattle.fta_words.proofs.EachKind.{named_so}
use Rattle.fta_words.proofs.Requests.{answers_from, front_is}
use Rattle.fta_words.proofs.command.request_in_full.Goals as goal

pub returns-then-not-are_plain : goal.returns-then-not-are_plain
returns-then-not-are_plain c = λ request is.
    let front = front_is c.args.reports.now c.args.words.now request is in
    false≢true (sym c.if-not-are_plain.true ∙ c.are_plain.ensures.1 (subst (AllByRecursion IsPlainWord) (sym (c.before_options-plain.ensures.value ∙ front)) (name_is_plain request.kind, is.plain_words)))

pub returns : goal.returns
returns c =
    let words = c.args.words.now in
    let kind = c.in-Some-kind_named.kind in
    let others = c.in-Some.others.now in
    let first : c.before_options-plain.result.now ≡ c.items.result.now ∷ others = search rules in
    let front : before_options words ≡ name_of kind ∷ others = sym c.before_options-plain.ensures.value ∙ first ∙ ap (λ n. n ∷ others) (named_so c.items.result.now kind (sym c.in-Some-kind_named.ensures)) in
    let plain : AllByRecursion IsPlainWord (before_options words) = subst (AllByRecursion IsPlainWord) c.before_options-plain.ensures.value (search rules) in
    let rest = between_to_end words (length c.before_options-plain.result.now) (length words) (le_refl (length words)) in
    IfOk-weaker c.request_of.result _ _
    (λ answer read. answers_from c.args.reports.now words kind others plain front answer
    (subst (λ p. ReadsAs c.args.reports.now kind others p answer) (rest ∙ ap (λ l. drop (length l) words) c.before_options-plain.ensures.value) read)) c.request_of.ensures
