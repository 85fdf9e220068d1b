use Rattle.std.proofs.Common.{map}
use Rattle.zdd_store.specs.inner.Store.{family_of}
use Rattle.zdd_families.specs.inner.Unions.{IsUnionOfSome, some_of}
use Rattle.zdd_families.proofs.Telling.{minimal_sets_of, tells_some}
use Rattle.zdd_families.proofs.Tables.{parts_rise}
use Rattle.zdd_families.proofs.Products.{least_of_all}
use Rattle.zdd_families.proofs.choice.at_least.Goals as goal

pub returns-clause-minimal : goal.returns-clause-minimal
returns-clause-minimal c =
    let parts = map (family_of c.args.store.now) c.args.parts.now in
    minimal_sets_of (some_of c.args.k parts) (IsUnionOfSome c.args.k parts) (family_of c.last_entry.new.store c.in_ok-answer.answer)
    (tells_some c.args.k parts (parts_rise c.args.store.now c.args.parts.now c.laws.ensures c.requires.parts_in))
    (least_of_all (some_of c.args.k parts) (family_of c.last_entry.new.store c.in_ok-answer.answer) c.in_ok-answer.ensures.answer.right)
    (c.laws-2.ensures.rising c.in_ok-answer.answer.position c.in_ok-answer.ensures.answer.found)

pub returns-clause-covers : goal.returns-clause-covers
returns-clause-covers c = least_of_all (some_of c.args.k (map (family_of c.args.store.now) c.args.parts.now)) (family_of c.last_entry.new.store c.in_ok-answer.answer) c.in_ok-answer.ensures.answer.right
