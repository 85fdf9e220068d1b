use Rattle.std.proofs.Common.{ℕ, ◌≡◌, [], List, not, take, get_or, ap, ◌∙◌}
use Rattle.std.specs.List.{list_any}
use Rattle.std.specs.HashMap.{get}
use Rattle.plain_values.specs.Name.{is_same_text}
use Rattle.requirement_names.specs.declared.mistake.Mistake.TheVariants.{DuplicateName}
use Rattle.requirement_names.specs.Names.{called}
use Rattle.requirement_names.specs.inner.Tables.{has_text, same_text}
use Rattle.requirement_names.specs.Wrong.{noting, wrong_if}
use Rattle.requirement_names.proofs.Knowing.{again-is, again-more, called-at, knows-more, long-as, text_agrees, text_alike}
use Rattle.requirement_names.proofs.names.NameTable.of.Goals as goal

pub loop-number-preserved : goal.loop-number-preserved
loop-number-preserved g c =
    let word_of = g.T.Called.word_of in
    let names = c.args.names.now in
    let items = c.args.items.now in
    let number = c.loop-number.number in
    let item = c.index-items-number.result in
    let name = c.index-names-number.result in
    let key = c.items.result in
    let old = get same_text c.loop-number.places in
    let new = get same_text c.add.new.table in
    let inside = c.loop-number-test.true in
    let there = long-as (called word_of) items names number c.requires inside in
    let key_is : key.now ≡ name = c.items.ensures.items in
    let called_so : get_or names number [] ≡ called word_of item =
    ap (λ (all : List (List ℕ)). get_or all number []) c.requires ∙ called-at (called word_of) items number item [] inside c.index-items-number.is in
    let name_is : name ≡ called word_of item =
    c.index-names-number.is ∙ ap (λ (all : List (List ℕ)). get_or all number name) c.requires ∙ called-at (called word_of) items number item name inside c.index-items-number.is in
    let again : not c.in_ok-is_new.is_new ≡ list_any (λ other. is_same_text other (called word_of item)) (take number names) =
    again-is has_text same_text (take number names) name key old new c.loop-number.invariant.table number _ c.in_ok-is_new.ensures
    ∙ ap (λ text. list_any (λ other. is_same_text other text) (take number names)) (key_is ∙ name_is) in
    record {
      table = knows-more has_text same_text names number name key old new _ there c.index-names-number.is (λ other. text_agrees name key other key_is) (text_alike key) c.loop-number.invariant.table c.in_ok-is_new.ensures;
      first = again-more word_of items names number item inside c.index-items-number.is there called_so c.loop-number.first c.note_if.new.self _
          (c.note_if.ensures ∙ (λ i. noting c.loop-number.first (wrong_if (again i) DuplicateName (c.word.ensures i)))) c.loop-number.invariant.first;
    }
