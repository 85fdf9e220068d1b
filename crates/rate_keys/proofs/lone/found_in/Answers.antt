use Rattle.std.proofs.Common.{[], ◌∷◌, map, take, subst, sym, ap, ◌∙◌}
use Rattle.std.proofs.lemmas.List.{map-append}
use Rattle.std.specs.HashMap.{get}
use denote.Ref.{Bor}
use Rattle.aadl_syntax.specs.declared.error_model.Transition.{Transition}
use Rattle.package_index.specs.inner.Tables.{same_text}
use Rattle.rate_keys.specs.inner.Found.{KnowsFound}
use Rattle.rate_keys.proofs.FoundLaws.{knows-more}
use Rattle.rate_keys.proofs.NamesLaws.{front-more}
use Rattle.rate_keys.proofs.lone.found_in.Goals as goal

pub loop-transition-preserved : goal.loop-transition-preserved
loop-transition-preserved c =
    let all = c.args.transitions.now in
    let i = c.loop-transition.transition-index in
    let one = c.transition-item.result in
    let now : Bor Transition → Transition = λ transition. transition.now in
    subst (λ front. KnowsFound c.args.events.now front (get same_text c.add_transition.new.found)) (sym (ap (map now) (front-more all i one c.loop-transition-test.true c.transition-item.is) ∙ map-append now (take i all) (one ∷ [])))
    (knows-more c.args.events.now (map now (take i all)) one.now (get same_text c.loop-transition.found) (get same_text c.add_transition.new.found) c.loop-transition.invariant c.in_ok-add_transition.ensures)
