use Rattle.std.proofs.Common.{◌≡◌, ◌<◌, ℕ, List, length, get_or, subst}
use Rattle.std.specs.HashMap.{get}
use Rattle.package_index.specs.declared.words.Words.TheVariants.{Names}
use Rattle.package_index.specs.inner.Tables.{same_words}
use Rattle.hazard_records.proofs.NumberLaws.{knows-more}
use Rattle.hazard_records.proofs.numbers.rows_of.Goals as goal

pub loop-number-preserved : goal.loop-number-preserved
loop-number-preserved c =
    let i = c.loop-number.number in
    let one = c.key-item.result in
    let all = c.items-key-items.ensures.items in
    let within = subst (λ (keys : List (List (List ℕ))). i < length keys) all c.loop-number-test.true in
    let is = subst (λ (keys : List (List (List ℕ))). one ≡ get_or keys i one) all c.key-item.is in
    knows-more c.args.keys.now i one (Names c.items.result) within is c.items.ensures.items (get same_words c.loop-number.rows) (get same_words c.add.new.rows) c.loop-number.invariant c.in_ok-add.ensures
