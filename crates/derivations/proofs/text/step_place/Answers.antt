use Rattle.std.proofs.Common.{◌∙◌, ap, arith}
use Rattle.derivations.specs.inner.Reading.{line_place}
use Rattle.derivations.proofs.Places.{place-of}
use Rattle.derivations.proofs.text.step_place.Goals as goal

pub returns : goal.returns
returns c = λ facts names events steps fact_names line_names few text within.
    c.line_place.ensures ∙ ap (line_place c.args.number) text.text
    ∙ place-of facts names events fact_names line_names steps c.args.number 0 within (omega (arith, few)) text.lines
