use Rattle.std.proofs.Common.{◌∙◌, ◌-◌, length, sym, subst}
use Rattle.std.proofs.lemmas.List.{take_all}
use Rattle.std.proofs.lemmas.Result.{err_from_is_err_and}
use Rattle.noted_refusals.specs.inner.Noted.{TellsFirst}
use Rattle.instantiator.specs.Components.{preorder}
use Rattle.instantiator.specs.Refused.{groups_from}
use Rattle.instantiator.specs.inner.Tables.{Grown}
use Rattle.instantiator.proofs.GroupLaws.{first-stops}
use Rattle.instantiator.proofs.PreorderLaws.{part-added, part-tells, tells-here, walked, whole}
use Rattle.instantiator.proofs.preorder.+add_all.Goals as goal

pub returns-in_err-kind-clause-grown : goal.returns-in_err-kind-clause-grown
returns-in_err-kind-clause-grown t c =
    let start = c.args.draft.now in
    let one = c.args.one.now in
    let packages = start.kinds.packages in
    let number = length start.components in
    let told = tells-here packages number one c.add.new.refusals c.in_err-kind.field-0.0 c.requires c.in_err-kind.ensures.told in
    let p = err_from_is_err_and c.from_residual.result c.from_residual.ensures.1 in
    rw (p.1, p.2) (first-stops packages number (preorder (34 - length one.path) packages one) c.add.new.refusals c.in_err-kind.field-0.0 told)

pub returns-in_err-kind-clause-told : goal.returns-in_err-kind-clause-told
returns-in_err-kind-clause-told t c =
    let start = c.args.draft.now in
    let p = err_from_is_err_and c.from_residual.result c.from_residual.ensures.1 in
    rw (p.1, p.2) (tells-here start.kinds.packages (length start.components) c.args.one.now c.add.new.refusals c.in_err-kind.field-0.0 c.requires c.in_err-kind.ensures.told)

pub returns-in_err-add_all-clause-grown : goal.returns-in_err-add_all-clause-grown
returns-in_err-add_all-clause-grown t c =
    let start = c.args.draft.now in
    let one = c.args.one.now in
    let packages = start.kinds.packages in
    let number = length start.components in
    let parts = c.items-part-items.result.now in
    let noted = c.add_all.new.refusals in
    let stop = c.in_err-add_all.field-0.0 in
    let all = whole start c.add.new.self one c.in_ok-kind.kind parts c.in_ok-kind.ensures.added (c.items-part-items.ensures.items ∙ c.in_ok-parts.ensures) in
    let told =
    part-tells one c.in_ok-below.below start c.loop-part.draft parts c.loop-part.part-index c.part-item.result c.loop-part-test.true c.part-item.is c.in_ok-below.ensures c.loop-part.invariant noted stop c.in_err-add_all.ensures.told in
    let p = err_from_is_err_and c.from_residual-in_err-add_all.result c.from_residual-in_err-add_all.ensures.1 in
    rw (p.1, p.2) (first-stops packages number (preorder (34 - length one.path) packages one) noted stop (subst (λ xs. TellsFirst (groups_from packages number xs) noted stop) (sym all) told))

pub returns-in_err-add_all-clause-told : goal.returns-in_err-add_all-clause-told
returns-in_err-add_all-clause-told t c =
    let start = c.args.draft.now in
    let one = c.args.one.now in
    let parts = c.items-part-items.result.now in
    let noted = c.add_all.new.refusals in
    let stop = c.in_err-add_all.field-0.0 in
    let all = whole start c.add.new.self one c.in_ok-kind.kind parts c.in_ok-kind.ensures.added (c.items-part-items.ensures.items ∙ c.in_ok-parts.ensures) in
    let told =
    part-tells one c.in_ok-below.below start c.loop-part.draft parts c.loop-part.part-index c.part-item.result c.loop-part-test.true c.part-item.is c.in_ok-below.ensures c.loop-part.invariant noted stop c.in_err-add_all.ensures.told in
    let p = err_from_is_err_and c.from_residual-in_err-add_all.result c.from_residual-in_err-add_all.ensures.1 in
    rw (p.1, p.2) (subst (λ xs. TellsFirst (groups_from start.kinds.packages (length start.components) xs) noted stop) (sym all) told)

pub loop-part-preserved : goal.loop-part-preserved
loop-part-preserved t c =
    part-added c.args.one.now c.in_ok-below.below c.args.draft.now c.loop-part.draft c.items-part-items.result.now c.loop-part.part-index c.part-item.result c.loop-part-test.true c.part-item.is c.in_ok-below.ensures c.loop-part.invariant
    c.add_all.new.draft c.in_ok-add_all.ensures.grown

pub returns-clause-grown : goal.returns-clause-grown
returns-clause-grown t c =
    let start = c.args.draft.now in
    let one = c.args.one.now in
    let parts = c.items-part-items.result.now in
    let all = whole start c.add.new.self one c.in_ok-kind.kind parts c.in_ok-kind.ensures.added (c.items-part-items.ensures.items ∙ c.in_ok-parts.ensures) in
    subst (λ xs. Grown start c.loop-part.draft xs) (sym all)
    (subst (λ some. Grown start c.loop-part.draft (walked (33 - length one.path) start.kinds.packages one some)) (take_all c.loop-part.part-index parts c.loop-part-test.false) c.loop-part.invariant)
