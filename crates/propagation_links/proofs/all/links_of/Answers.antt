use Rattle.std.proofs.Common.{ap, ◌∙◌, subst}
use Rattle.std.proofs.lemmas.Result.{err_from_is_err_and}
use Rattle.instantiator.specs.Whole.{Instance}
use Rattle.propagation_links.specs.Bound.{all_bounds}
use Rattle.propagation_links.specs.inner.Steps.{IsFurther}
use Rattle.propagation_links.proofs.LinkLaws.{all-accepted, all-linked, component-stops, component-told, limit-stops, limit-told}
use Rattle.propagation_links.proofs.all.links_of.Goals as goal

pub returns-in_err-test_links-clause-refused : goal.returns-in_err-test_links-clause-refused
returns-in_err-test_links-clause-refused c =
    let p = err_from_is_err_and c.from_residual.result c.from_residual.ensures.1 in
    rw (p.1, p.2) (limit-stops c.args.profile _ c.new-pointed.result c.new-pointed.ensures c.in_err-test_links.field-0.0 c.in_err-test_links.ensures.limit)

pub returns-in_err-test_limit-clause-refused : goal.returns-in_err-test_limit-clause-refused
returns-in_err-test_limit-clause-refused c =
    let p = err_from_is_err_and c.from_residual-in_err-test_limit.result c.from_residual-in_err-test_limit.ensures.1 in
    rw (p.1, p.2) (limit-stops c.args.profile _ c.new-pointed.result c.new-pointed.ensures c.in_err-test_limit.field-0.0 c.in_err-test_limit.ensures.limit)

pub returns-in_err-links-clause-refused : goal.returns-in_err-links-clause-refused
returns-in_err-links-clause-refused c =
    let p = err_from_is_err_and c.from_residual-in_err-links.result c.from_residual-in_err-links.ensures.1 in
    rw (p.1, p.2) (component-stops c.args.profile _ c.new-pointed.result c.new-pointed.ensures c.in_err-links.field-0.0 c.in_ok-test_limit.ensures.limit c.in_err-links.ensures.linked)

pub returns-clause-links : goal.returns-clause-links
returns-clause-links c =
    let tables = c.in_ok-tables.ensures in
    let has = subst (λ (its : Instance). IsFurther c.args.profile its c.in_ok-further.further) tables c.in_ok-further.ensures.are in
    all-linked c.args.profile _ c.new-pointed.result c.new-pointed.ensures c.in_ok-links.links c.add_all_bound.new.links c.add_links.new.links _ c.in_ok-further.further c.in_ok-links.ensures.linked.are
    (c.items-2.ensures.items ∙ c.in_ok-bounds.ensures.bounds ∙ ap all_bounds tables) has c.in_ok-add_all_bound.ensures c.in_ok-add_links.ensures

pub returns-clause-accepted : goal.returns-clause-accepted
returns-clause-accepted c = all-accepted c.args.profile _ c.new-pointed.result c.new-pointed.ensures c.in_ok-test_limit.ensures.limit c.in_ok-links.ensures.linked.accepted

pub returns-in_err-test_links-clause-told : goal.returns-in_err-test_links-clause-told
returns-in_err-test_links-clause-told c =
    let p = err_from_is_err_and c.from_residual.result c.from_residual.ensures.1 in
    rw (p.1, p.2) (limit-told c.args.profile _ c.new-pointed.result c.new-pointed.ensures c.test_links.new.refusals c.in_err-test_links.field-0.0 c.in_err-test_links.ensures.limit c.in_err-test_links.ensures.told)

pub returns-in_err-test_limit-clause-told : goal.returns-in_err-test_limit-clause-told
returns-in_err-test_limit-clause-told c =
    let p = err_from_is_err_and c.from_residual-in_err-test_limit.result c.from_residual-in_err-test_limit.ensures.1 in
    rw (p.1, p.2) (limit-told c.args.profile _ c.new-pointed.result c.new-pointed.ensures c.test_limit.new.refusals c.in_err-test_limit.field-0.0 c.in_err-test_limit.ensures.limit c.in_err-test_limit.ensures.told)

pub returns-in_err-links-clause-told : goal.returns-in_err-links-clause-told
returns-in_err-links-clause-told c =
    let p = err_from_is_err_and c.from_residual-in_err-links.result c.from_residual-in_err-links.ensures.1 in
    rw (p.1, p.2) (component-told c.args.profile _ c.new-pointed.result c.new-pointed.ensures c.connected.new.refusals c.in_err-links.field-0.0 c.in_ok-test_limit.ensures.limit c.in_err-links.ensures.told)
