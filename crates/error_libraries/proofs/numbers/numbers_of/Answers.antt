use Rattle.std.proofs.Common.{ℕ, get_or, refl}
use Rattle.std.proofs.lemmas.List.{get_or_default}
use Rattle.std.specs.HashMap.{get}
use Rattle.package_index.specs.inner.Tables.{same_pair}
use Rattle.package_index.proofs.KnowsLaws.{knows-more}
use Rattle.error_libraries.specs.declared.id.ItemId.{ItemId}
use Rattle.error_libraries.specs.inner.Tables.{has_number}
use Rattle.error_libraries.proofs.Keys.{number_alike}
use Rattle.error_libraries.proofs.numbers.numbers_of.Goals as goal

pub loop-number-preserved : goal.loop-number-preserved
loop-number-preserved c =
    let none : ItemId = record { «package» = 0; item = 0 } in
    let types = c.args.types.now in
    let id : ItemId = get_or types c.loop-number.number none in
    let key : ℕ × ℕ = (id.«package», id.item) in
    knows-more has_number same_pair types c.loop-number.number id key (get same_pair c.loop-number.numbers) (get same_pair c.add.new.table) _ c.loop-number-test.true (get_or_default types c.loop-number.number none id c.loop-number-test.true)
    (λ other. refl) (number_alike key) c.loop-number.invariant c.in_ok-add.ensures
