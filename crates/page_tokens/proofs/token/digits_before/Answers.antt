use Rattle.std.proofs.Common.{rules, ◌≡◌, ◌∷◌, ◌++◌, ◌∙◌, List, ℕ, ap, arith, drop, slice_index_or, sym, subst}
use Rattle.std.specs.List.{AllByRecursion}
use Rattle.page_tokens.specs.Forms.{IsDigit}
use Rattle.page_tokens.proofs.Forms.{cut_there, front_is}
use Rattle.page_tokens.proofs.token.digits_before.Goals as goal

pub returns-then-not-are_digits-clause-none : goal.returns-then-not-are_digits-clause-none
returns-then-not-are_digits-clause-none c = λ digits rest is are.
    let front = sym (c.front_of-front.ensures.front ∙ front_is c.args.text.now digits rest is are) in
    let yes = c.are_digits.ensures.1 (subst (AllByRecursion IsDigit) front are.each) in
    absurd (cc (yes, c.if-not-are_digits.true))

pub returns-clause-found : goal.returns-clause-found
returns-clause-found c =
    let colon : slice_index_or c.args.text.now 64 0 ≡ 58 = search rules in
    let digits = c.copied.ensures ∙ c.front_of-front.ensures.front in
    (cut_there c.args.text.now (omega (arith, c.if-text-lt65.false)) colon ∙ ap (λ (front : List ℕ). front ++ (58 ∷ drop 65 c.args.text.now)) (sym digits), search rules)
