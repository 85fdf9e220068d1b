use Rattle.std.proofs.Common.{◌≡◌, Err, IfErr, MatchOption, ap, subst, sym, ◌∙◌}
use Rattle.std.proofs.lemmas.Result.{err_from_is_err_and}
use Rattle.plain_values.specs.Order.{IsClear, IsFirst}
use Rattle.noted_refusals.specs.inner.Noted.{Tells, noting}
use Rattle.package_index.specs.Duplicates.{IsDuplicate, duplicates, packages_again}
use Rattle.plain_values.specs.inner.Stops.{StopsAtFirst}
use Rattle.package_index.specs.Lookup.{packages_of}
use Rattle.package_index.proofs.Gathering.{listed-duplicates, noted-duplicates}
use Rattle.package_index.proofs.index.Index.new.Goals as goal

pub returns-in_err-settle-clause-refused : goal.returns-in_err-settle-clause-refused
returns-in_err-settle-clause-refused c =
    let packages = packages_of c.args.files.now in
    let noted = subst (λ made. c.numbers_of.new.refusals ≡ noting c.tables_of.new.refusals (packages_again made)) c.items.ensures.items c.in_ok-numbers.ensures.noted in
    let settled = noted-duplicates packages c.in_ok-packages.packages c.args.refusals.now.room c.clear.new.self c.tables_of.new.refusals c.numbers_of.new.refusals c.clear.ensures c.in_ok-packages.ensures noted in
    let first = subst (λ o. MatchOption o (IsClear (IsDuplicate packages)) (λ refusal. IsFirst (IsDuplicate packages) refusal)) c.in_err-settle.ensures settled in
    let p = err_from_is_err_and c.from_residual-in_err-settle.result c.from_residual-in_err-settle.ensures.1 in
    subst (λ r. IfErr r (StopsAtFirst (IsDuplicate packages))) (sym (p.1 ∙ ap Err p.2)) first

pub returns-in_err-settle-clause-told : goal.returns-in_err-settle-clause-told
returns-in_err-settle-clause-told c =
    let packages = packages_of c.args.files.now in
    let noted = subst (λ made. c.numbers_of.new.refusals ≡ noting c.tables_of.new.refusals (packages_again made)) c.items.ensures.items c.in_ok-numbers.ensures.noted in
    let listed = listed-duplicates packages c.in_ok-packages.packages c.args.refusals.now.room c.clear.new.self c.tables_of.new.refusals c.numbers_of.new.refusals c.clear.ensures c.in_ok-packages.ensures noted in
    let p = err_from_is_err_and c.from_residual-in_err-settle.result c.from_residual-in_err-settle.ensures.1 in
    subst (λ r. IfErr r (Tells (duplicates packages) c.numbers_of.new.refusals)) (sym (p.1 ∙ ap Err p.2)) listed

pub returns-clause-accepted : goal.returns-clause-accepted
returns-clause-accepted c =
    let packages = packages_of c.args.files.now in
    let noted = subst (λ made. c.numbers_of.new.refusals ≡ noting c.tables_of.new.refusals (packages_again made)) c.items.ensures.items c.in_ok-numbers.ensures.noted in
    let settled = noted-duplicates packages c.in_ok-packages.packages c.args.refusals.now.room c.clear.new.self c.tables_of.new.refusals c.numbers_of.new.refusals c.clear.ensures c.in_ok-packages.ensures noted in
    subst (λ o. MatchOption o (IsClear (IsDuplicate packages)) (λ refusal. IsFirst (IsDuplicate packages) refusal)) c.in_ok-settle.ensures settled
