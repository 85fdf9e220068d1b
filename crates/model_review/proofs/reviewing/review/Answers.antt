use Rattle.std.proofs.Common.{◌≡◌, length, sym, ◌∙◌, subst}
use Rattle.std.specs.Prelude.{IfOk, Result, Ok, Err}
use Rattle.plain_values.specs.Rising.{RisesWithin}
use Rattle.model_facts.specs.Assembly.{Assembly, universe_of}
use Rattle.model_facts.specs.Effects.{effects_of}
use Rattle.fact_formulas.specs.Flat.{system_of}
use Rattle.fact_formulas.specs.Numbered.{numbered_of}
use Rattle.system_review.specs.inner.Alone.{HoldTheSame}
use Rattle.model_review.specs.inner.Review.{IsReview, Reviews}
use Rattle.model_review.specs.Seen.{Seen, seen_of}
use Rattle.model_review.specs.declared.reviewing.Reviewed.{Reviewed}
use Rattle.model_review.specs.inner.Joined.{HasNoHiddenLine, joined_by}
use Rattle.model_review.proofs.Saying.{nothing-hidden}
use Rattle.model_review.proofs.Whole.{all-seen}
use Rattle.model_review.proofs.Written.{none-written}
use Rattle.model_review.proofs.reviewing.review.Goals as goal

pub review_seen-requires : goal.review_seen-requires
review_seen-requires c = subst (λ (seen : Seen). RisesWithin 0 (length seen.system.facts) seen.effects) (sym c.new-view.ensures) c.requires.rise

pub returns-clause-exact : goal.returns-clause-exact
returns-clause-exact c =
    let assembly = c.args.assembly.now in
    let same : c.new-view.result ≡ seen_of assembly =
    c.new-view.ensures ∙ all-seen assembly c.args.model.now.universe c.args.model.now.facts c.args.model.now.events c.args.model.now.system c.args.model.now.effects c.requires.universe c.requires.facts c.requires.events c.requires.system c.requires.effects in
    subst (λ (seen : Seen). IfOk c.review_seen.result (Reviews seen)) same c.review_seen.ensures

-- what a review says of what is lost
none-lost : {E : Type 0} (assembly : Assembly) (answer : Result Reviewed E) → IfOk answer (IsReview assembly)
    → IfOk answer (λ reviewed. HasNoHiddenLine reviewed.lines → HoldTheSame (system_of assembly) (joined_by (numbered_of assembly)))
none-lost assembly (Ok reviewed) reviews = λ none. nothing-hidden assembly (universe_of assembly) (effects_of assembly) (none-written (seen_of assembly) reviewed reviews none)
none-lost assembly (Err error) is = tt

pub returns-clause-nothing_lost : goal.returns-clause-nothing_lost
returns-clause-nothing_lost c = none-lost c.args.assembly.now c.review_seen.result (returns-clause-exact c)
