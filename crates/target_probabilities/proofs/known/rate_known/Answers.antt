use Rattle.std.proofs.Common.{◌≡◌, ◌∙◌, Bool, true, ap, refl, subst, sym}
use Rattle.dot_writer.specs.Picture.{is_mark}
use Rattle.event_probabilities.specs.declared.finding.Found.TheVariants.{WithoutRate}
use Rattle.target_probabilities.specs.Probability.{IsFoundAs}
use Rattle.target_probabilities.proofs.known.rate_known.Goals as goal

pub returns-then-is_mark-clause-known : goal.returns-then-is_mark-clause-known
returns-then-is_mark-clause-known c = λ given read.
    let rate = c.args.rate.now in
    let mark : is_mark rate.kind rate.text ≡ true = sym (ap (is_mark rate.kind) c.items.ensures.items) ∙ sym c.is_mark.ensures ∙ c.if-is_mark.true in
    record {
      found = subst (λ (b : Bool). IsFoundAs b c.args.whole rate given WithoutRate c.unknown.result) (sym mark) ((c.unknown.ensures.low, c.unknown.ensures.high), refl);
      sharp = λ places few low high. c.unknown.ensures.sharp places;
    }
