use Rattle.std.proofs.Common.{◌≡◌, ap, ◌∙◌, not, take}
use Rattle.std.specs.HashMap.{get}
use Rattle.noted_refusals.specs.inner.Noted.{noting}
use Rattle.package_index.specs.declared.words.Words.{Words}
use Rattle.package_index.specs.declared.words.Words.TheVariants.{Identifiers}
use Rattle.package_index.specs.Duplicates.{again_at}
use Rattle.package_index.specs.Lookup.{has_name}
use Rattle.package_index.specs.inner.Names.{names_of}
use Rattle.package_index.specs.inner.Tables.{has_words, same_words}
use Rattle.package_index.proofs.Keys.{same_packages, words_agrees, words_alike}
use Rattle.package_index.proofs.KnowsLaws.{again-end, again-is, again-more, knows-all, knows-more}
use Rattle.package_index.proofs.index.numbers_of.Goals as goal

pub loop-number-preserved : goal.loop-number-preserved
loop-number-preserved c =
    let unit = c.index-packages-number.result in
    let units = c.args.packages.now in
    let number = c.loop-number.number in
    let key : Words = Identifiers c.items.result in
    let name : names_of key ≡ unit.name = c.items.ensures.items ∙ ap (λ u. u.name) c.unit-unit.ensures in
    let noted = c.note_if.ensures ∙ ap (λ spot. noting c.loop-number.refusals (again_at (not c.in_ok-is_new.is_new) spot)) (ap (λ u. u.spot) c.unit-unit.ensures) in
    let again = again-is has_words same_words (take number units) unit key (get same_words c.loop-number.table) (get same_words c.add.new.table) c.loop-number.invariant.table number _ c.in_ok-is_new.ensures in
    record {
      table = knows-more has_words same_words units number unit key (get same_words c.loop-number.table) (get same_words c.add.new.table) _ c.loop-number-test.true c.index-packages-number.is
          (λ other. words_agrees unit key other name) (words_alike key) c.loop-number.invariant.table c.in_ok-is_new.ensures;
      first = again-more (λ later earlier. has_name later.name earlier) (λ u. u.spot) units number unit c.loop-number.refusals c.note_if.new.self _ c.loop-number-test.true c.index-packages-number.is
          (noted ∙ ap (λ is. noting c.loop-number.refusals (again_at is unit.spot)) (again ∙ same_packages unit key (take number units) name)) c.loop-number.invariant.first;
    }

pub returns-clause-table : goal.returns-clause-table
returns-clause-table c = knows-all has_words c.args.packages.now c.loop-number.number (get same_words c.loop-number.table) c.loop-number-test.false c.loop-number.invariant.table

pub returns-clause-noted : goal.returns-clause-noted
returns-clause-noted c = again-end (λ later earlier. has_name later.name earlier) (λ u. u.spot) c.args.packages.now c.loop-number.number c.loop-number.refusals _ c.loop-number-test.false c.loop-number.invariant.first
