use Rattle.std.proofs.Common.{ap, ◌∙◌, take}
use Rattle.std.specs.HashMap.{get}
use Rattle.noted_refusals.specs.inner.Noted.{noting}
use Rattle.package_index.specs.Duplicates.{again_at}
use Rattle.package_index.specs.Lookup.{is_named}
use Rattle.package_index.specs.inner.Tables.{has_key, Key, same_key}
use Rattle.package_index.proofs.Keys.{key_agrees, key_alike, same_names}
use Rattle.package_index.proofs.KnowsLaws.{again-is, again-more, again-end, knows-more, knows-all}
use Rattle.package_index.proofs.package.classifiers_of.Goals as goal

pub loop-number-preserved : goal.loop-number-preserved
loop-number-preserved c =
    let decl = c.index-decls-number.result in
    let decls = c.args.decls.now in
    let key : Key = (c.text.result, c.text_of.result) in
    let again = again-is has_key same_key (take c.loop-number.number decls) decl key (get same_key c.loop-number.table) (get same_key c.add.new.table) c.loop-number.invariant.table c.loop-number.number _ c.in_ok-is_new.ensures in
    record {
      table = knows-more has_key same_key decls c.loop-number.number decl key (get same_key c.loop-number.table) (get same_key c.add.new.table) _ c.loop-number-test.true c.index-decls-number.is
          (λ other. key_agrees decl key other c.text.ensures.text c.text_of.ensures) (key_alike key) c.loop-number.invariant.table c.in_ok-is_new.ensures;
      first = again-more (λ later earlier. is_named later.name later.item earlier) (λ d. d.spot) decls c.loop-number.number decl c.loop-number.refusals c.note_if.new.self _ c.loop-number-test.true c.index-decls-number.is
          (c.note_if.ensures ∙ ap (λ is. noting c.loop-number.refusals (again_at is decl.spot)) (again ∙ same_names decl key (take c.loop-number.number decls) c.text.ensures.text c.text_of.ensures)) c.loop-number.invariant.first;
    }

pub returns-clause-table : goal.returns-clause-table
returns-clause-table c = knows-all has_key c.args.decls.now c.loop-number.number (get same_key c.loop-number.table) c.loop-number-test.false c.loop-number.invariant.table

pub returns-clause-noted : goal.returns-clause-noted
returns-clause-noted c = again-end (λ later earlier. is_named later.name later.item earlier) (λ d. d.spot) c.args.decls.now c.loop-number.number c.loop-number.refusals _ c.loop-number-test.false c.loop-number.invariant.first
