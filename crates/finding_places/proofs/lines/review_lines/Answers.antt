use Rattle.std.proofs.Common.{◌≡◌, List, map, sym, ap, subst, ◌∙◌}
use Rattle.std.specs.Prelude.{IfOk, Result, Ok, Err}
use Rattle.model_facts.specs.Assembly.{Assembly}
use Rattle.fact_formulas.specs.Flat.{system_of}
use Rattle.fact_formulas.specs.Numbered.{numbered_of}
use Rattle.system_review.specs.inner.Alone.{HoldTheSame}
use Rattle.model_review.specs.inner.Review.{IsReview}
use Rattle.model_review.specs.Seen.{Seen, seen_of}
use Rattle.model_review.specs.declared.reviewing.Reviewed.{Reviewed}
use Rattle.model_review.specs.inner.Joined.{HasNoHiddenLine, joined_by}
use Rattle.model_review.proofs.Whole.{all-seen}
use Rattle.finding_places.specs.Lines.{AreLinesOf, review_line}
use Rattle.finding_places.specs.declared.line.ReviewLine.{ReviewLine}
use Rattle.finding_places.specs.inner.Lines.{HasNoHiddenText}
use Rattle.finding_places.proofs.Placed.{texts-same}
use Rattle.finding_places.proofs.lines.review_lines.Goals as goal

-- the lines of a review
all-lines : {E : Type 0} (assembly : Assembly) (reviewed : Reviewed) (answer : Result (List ReviewLine) E) → IsReview assembly reviewed → IfOk answer (λ lines. lines ≡ map (review_line (seen_of assembly)) reviewed.findings) → IfOk answer (AreLinesOf assembly)
all-lines assembly reviewed (Ok lines) reviews are = record { findings = reviewed.findings; told = reviews.told; lines_are = are }
all-lines assembly reviewed (Err error) reviews are = tt

-- what they say of what is lost
none-lost : {E : Type 0} (assembly : Assembly) (reviewed : Reviewed) (answer : Result (List ReviewLine) E) → IsReview assembly reviewed → (HasNoHiddenLine reviewed.lines → HoldTheSame (system_of assembly) (joined_by (numbered_of assembly)))
    → IfOk answer (λ lines. lines ≡ map (review_line (seen_of assembly)) reviewed.findings) → IfOk answer (λ lines. HasNoHiddenText lines → HoldTheSame (system_of assembly) (joined_by (numbered_of assembly)))
none-lost assembly reviewed (Ok lines) reviews lost are = λ none. lost (subst HasNoHiddenLine (texts-same (seen_of assembly) reviewed.findings reviewed.lines lines reviews.lines are) none)
none-lost assembly reviewed (Err error) reviews lost are = tt

pub returns-clause-exact : goal.returns-clause-exact
returns-clause-exact c =
    let assembly = c.args.assembly.now in
    let model = c.args.model.now in
    let reviewed = c.in_ok-reviewed.reviewed in
    let seen = all-seen assembly model.universe model.facts model.events model.system model.effects c.requires.universe c.requires.facts c.requires.events c.requires.system c.requires.effects in
    let same : (seen_of assembly).numbered ≡ record { assembly = c.in_ok-places.places; universe = model.universe; facts = model.facts; events = model.events } =
    ap (λ (seen : Seen). seen.numbered) (sym seen) ∙ (λ i. record { assembly = sym c.in_ok-places.ensures i; universe = model.universe; facts = model.facts; events = model.events }) in
    all-lines assembly reviewed c.placed.result c.in_ok-reviewed.ensures.exact (c.placed.ensures (seen_of assembly) same c.in_ok-reviewed.ensures.exact.lines)

pub returns-clause-nothing_lost : goal.returns-clause-nothing_lost
returns-clause-nothing_lost c =
    let assembly = c.args.assembly.now in
    let model = c.args.model.now in
    let reviewed = c.in_ok-reviewed.reviewed in
    let seen = all-seen assembly model.universe model.facts model.events model.system model.effects c.requires.universe c.requires.facts c.requires.events c.requires.system c.requires.effects in
    let same : (seen_of assembly).numbered ≡ record { assembly = c.in_ok-places.places; universe = model.universe; facts = model.facts; events = model.events } =
    ap (λ (seen : Seen). seen.numbered) (sym seen) ∙ (λ i. record { assembly = sym c.in_ok-places.ensures i; universe = model.universe; facts = model.facts; events = model.events }) in
    none-lost assembly reviewed c.placed.result c.in_ok-reviewed.ensures.exact c.in_ok-reviewed.ensures.nothing_lost (c.placed.ensures (seen_of assembly) same c.in_ok-reviewed.ensures.exact.lines)
