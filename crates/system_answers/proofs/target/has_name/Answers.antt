use Rattle.std.proofs.Common.{◌≡◌, Some, None, sym, ap, ◌∙◌, option_copied}
use Rattle.std.proofs.lemmas.Bool.{false≢true}
use Rattle.system_answers.proofs.target.has_name.Goals as goal

pub returns-in-Some : goal.returns-in-Some
returns-in-Some c = (
  λ same. record { fact = c.in-Some.fact.now; there = sym c.fact.ensures ∙ ap option_copied c.in-Some.is; named = sym c.items.ensures.items ∙ c.is_same.ensures.means.0 same ∙ c.items-in-Some.ensures.items },
  λ named.
      let facts : Some c.in-Some.fact.now ≡ Some named.fact = sym (ap option_copied c.in-Some.is) ∙ c.fact.ensures ∙ named.there in
      let fact : c.in-Some.fact.now ≡ named.fact = cc (facts) in
      c.is_same.ensures.means.1 (c.items.ensures.items ∙ ap (λ f. f.name) fact ∙ named.named ∙ sym c.items-in-Some.ensures.items),
)

pub returns-in-None : goal.returns-in-None
returns-in-None c =
    (λ same. absurd (false≢true same), λ named. let none : None ≡ Some named.fact = sym (ap option_copied c.in-None.is) ∙ c.fact.ensures ∙ named.there in cc)
