use Rattle.std.proofs.Common.{[], ◌∷◌, ap, map, subst, sym, take, ◌∙◌}
use Rattle.std.proofs.lemmas.List.{map-append, take_all}
use Rattle.std.specs.HashMap.{get}
use denote.Ref.{Bor}
use Rattle.aadl_syntax.specs.declared.error_model.Association.{Association}
use Rattle.package_index.specs.inner.Tables.{same_words}
use Rattle.event_rates.specs.inner.Fitting.{KnowsFitting}
use Rattle.event_rates.proofs.FittingLaws.{front-more, knows-more}
use Rattle.event_rates.proofs.table.fitting_of.Goals as goal

pub loop-association-preserved : goal.loop-association-preserved
loop-association-preserved c =
    let list = c.args.list.now in
    let k = c.loop-association.association-index in
    let one = c.association-item.result in
    let now = λ (association : Bor Association). association.now in
    let more = ap (map now) (front-more list k one c.loop-association-test.true c.association-item.is) ∙ map-append now (take k list) (one ∷ []) in
    subst (λ xs. KnowsFitting c.args.profile xs (get same_words c.add_association.new.fitting)) (sym more)
    (knows-more c.args.profile (map now (take k list)) one.now (get same_words c.loop-association.fitting) (get same_words c.add_association.new.fitting) c.loop-association.invariant c.in_ok-add_association.ensures)

pub returns : goal.returns
returns c =
    let now = λ (association : Bor Association). association.now in
    subst (λ xs. KnowsFitting c.args.profile (map now xs) (get same_words c.loop-association.fitting)) (take_all c.loop-association.association-index c.args.list.now c.loop-association-test.false) c.loop-association.invariant
