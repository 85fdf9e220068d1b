use Rattle.std.proofs.Common.{get_or, sym, ◌∙◌}
use Rattle.std.proofs.lemmas.List.{get_or_default}
use Rattle.error_libraries.proofs.AlongLaws.{along-first, along-found}
use Rattle.error_libraries.proofs.declarations.search_along.Goals as goal

pub loop-number-preserved : goal.loop-number-preserved
loop-number-preserved c =
    let none = sym c.in_ok-looked.ensures.found ∙ c.in-Nowhere.is in
    let is = get_or_default c.args.numbers.now c.loop-number.number-index 0 (get_or c.args.numbers.now c.loop-number.number-index 0) c.loop-number-test.true in (
      along-found c.args.libraries.now c.args.name.now c.args.numbers.now c.loop-number.number-index _ c.loop-number-test.true is none _ c.loop-number.invariant.0,
      along-first c.args.libraries.now c.args.name.now c.args.numbers.now c.loop-number.number-index _ c.loop-number-test.true is none c.loop-number.first c.search.new.first _ c.in_ok-looked.ensures.first c.loop-number.invariant.1,
      c.search.ensures.known,
    )
