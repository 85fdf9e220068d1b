use Rattle.std.proofs.Common.{◌≡◌, [], sym, ap, ◌∙◌, subst}
use Rattle.plain_values.specs.Order.{nearer}
use Rattle.error_libraries.specs.inner.Course.{left}
use Rattle.error_libraries.specs.inner.Leaving.{Leads}
use Rattle.error_libraries.specs.Search.{unknown_in}
use Rattle.error_libraries.proofs.SearchLaws.{begins}
use Rattle.error_libraries.proofs.search.search_on.Goals as goal

pub loop-init : goal.loop-init
loop-init c =
    let libraries = c.args.libraries.now in
    let name = c.args.name.now in
    let first : c.note_some.new.self ≡ unknown_in libraries c.args.number = c.note_some.ensures ∙ (λ i. nearer (c.new-noted.ensures i) (c.unknown_in.ensures i)) in
    ap (left libraries name) c.in_ok-course.ensures
    ∙ (λ i. left libraries name (record { top = record { library = c.args.number; rest = c.extended-rest.ensures i }; below = []; vain = []; first = first i }))
    ∙ begins libraries name c.args.number c.requires

pub loop-preserved : goal.loop-preserved
loop-preserved c =
    subst (Leads c.args.libraries.now c.args.name.now (left c.args.libraries.now c.args.name.now c.loop.course)) c.in-Next.is c.in_ok-next.ensures ∙ c.loop.invariant

pub returns-in-Ended : goal.returns-in-Ended
returns-in-Ended c =
    let ended = subst (Leads c.args.libraries.now c.args.name.now (left c.args.libraries.now c.args.name.now c.loop.course)) c.in-Ended.is c.in_ok-next.ensures in
    record {
      looked = sym (ap (λ search. search.found) c.loop.invariant) ∙ ended.0;
      first = sym (ap (λ search. search.first) c.loop.invariant) ∙ ended.1 ∙ sym c.noted.ensures;
    }
