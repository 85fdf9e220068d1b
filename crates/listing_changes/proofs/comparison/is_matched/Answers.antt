use Rattle.std.proofs.Common.{List, Option, ℕ, Contains, subst}
use Rattle.std.specs.Prelude.{◌↔◌, IsTrue, MatchBool}
use Rattle.zdd_store.specs.inner.Store.{family_of}
use Rattle.listing_changes.specs.inner.Numbers.{AreNumbers, LacksNumber}
use Rattle.listing_changes.proofs.Ascending.{sorted-set}
use Rattle.listing_changes.proofs.Matching.{matched-is, matched-not}
use Rattle.listing_changes.proofs.comparison.is_matched.Goals as goal

pub returns-then-not-branch : goal.returns-then-not-branch
returns-then-not-branch c =
    let comparison = c.args.comparison.now in
    let set = c.args.set.now in
    let lacks = subst (λ b. MatchBool b (AreNumbers comparison.numbers.now set c.translate.new.numbers.items) (LacksNumber comparison.numbers.now set)) c.if-not-branch.true c.in_ok-translate.ensures in
    matched-not comparison.here.now comparison.there.now (family_of comparison.store.now comparison.sets) set c.events-named_there.ensures.system c.requires.comparison.sets_are c.requires.set
    (subst (λ (table : List (Option ℕ)). LacksNumber table set) c.requires.comparison.numbers lacks)

pub returns : goal.returns
returns c =
    let comparison = c.args.comparison.now in
    let set = c.args.set.now in
    let numbers = c.translate.new.numbers.items in
    let sorted = c.sort_unstable.new.self.items in
    let others = family_of comparison.store.now comparison.sets in
    let there = subst (λ b. MatchBool b (AreNumbers comparison.numbers.now set numbers) (LacksNumber comparison.numbers.now set)) c.if-not-branch.false c.in_ok-translate.ensures in
    let are = subst (λ (table : List (Option ℕ)). AreNumbers table set numbers) c.requires.comparison.numbers there in
    matched-is comparison.here.now comparison.there.now others set numbers sorted c.has_set.result c.events-named_there.ensures.system c.requires.comparison.sets_are c.requires.set are c.sort_unstable.ensures.permutation
    (sorted-set comparison.here.now comparison.there.now c.events-named.ensures.system set numbers sorted c.requires.set are c.sort_unstable.ensures.permutation c.sort_unstable.ensures.sorted)
    (subst (λ (found : List ℕ). IsTrue c.has_set.result ↔ Contains others found) c.as_slice.ensures.value c.has_set.ensures)
