use Rattle.std.proofs.Common.{◌≡◌, ℕ, ◌<◌, Result, Ok, Err, arith}
use Rattle.std.specs.declared.alloc.AllocError.{AllocError}
use Rattle.std.specs.List.{AllByRecursion}
use Rattle.zdd_store.specs.inner.Family.{Family, IsRising, IsAntichain, covers, least_number}
use Rattle.zdd_store.specs.inner.Store.{Families, family_of}
use Rattle.zdd_store.specs.inner.Answers.{IsLeastUpTo, sets_up_to}
use Rattle.zdd_store.specs.declared.id.Id.{Id}
use Rattle.zdd_families.specs.inner.Steps.{Answered}
use Rattle.zdd_families.proofs.Ways.{answered}
use Rattle.zdd_families.proofs.Shorter.{up_to-asked, all-asked}
use Rattle.zdd_families.proofs.product.asked_sets.Goals as goal

asked : (before after : Families) (family : Family) (most : ℕ) (result : Result Id AllocError) → most < 4294967295 → AllByRecursion IsRising family → IsAntichain family
    → Answered before after (least_number family) (λ f. f ≡ sets_up_to most family) result → Answered before after (least_number family) (IsLeastUpTo most (covers family)) result
asked before after family most (Ok id) fits rising apart a =
    record { kept = a.kept; answer = record { found = a.answer.found; least = a.answer.least; right = up_to-asked most family (family_of after id) fits rising apart a.answer.right } }
asked before after family most (Err e) fits rising apart a = record { kept = a.kept; answer = tt }

pub returns-then-most-ge4294967295 : goal.returns-then-most-ge4294967295
returns-then-most-ge4294967295 c = answered c.args.a c.requires.a_in (omega arith) (all-asked c.args.most (family_of c.args.store.now c.args.a) c.requires.a_apart)

pub returns : goal.returns
returns c =
    asked c.args.store.now c.sets_within.new.store (family_of c.args.store.now c.args.a) c.args.most c.sets_within.result (omega arith) (c.laws.ensures.rising c.args.a.position c.requires.a_in) c.requires.a_apart c.sets_within.ensures
