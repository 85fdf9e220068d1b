use Rattle.std.proofs.Common.{◌≡◌, ◌∷◌, sym, ◌∙◌, subst, rules}
use Rattle.aadl_syntax.specs.Form.{IsWord}
use Rattle.fta_words.proofs.Identifiers.{follows_of, word_of}
use Rattle.fta_words.proofs.text.is_identifier.Goals as goal

pub returns-then-is_letter : goal.returns-then-is_letter
returns-then-is_letter c =
    let whole : c.args.text.now ≡ c.in-Some.first.now ∷ c.in-Some.others.now = search rules in (
      λ h. subst IsWord (sym whole) (word_of c.in-Some.first.now c.in-Some.others.now (sym c.is_letter.ensures ∙ c.if-is_letter.true) (sym c.follows_well.ensures ∙ h)),
      λ w. c.follows_well.ensures ∙ (follows_of c.in-Some.first.now c.in-Some.others.now (subst IsWord whole w)).1,
    )
