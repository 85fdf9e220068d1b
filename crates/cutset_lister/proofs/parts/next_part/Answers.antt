use Rattle.std.proofs.Common.{◌≤◌, ◌+◌, arith, refl, slice_index_or}
use Rattle.zdd_store.specs.inner.Store.{family_of}
use Rattle.cutset_lister.specs.inner.Trails.{greatest_size}
use Rattle.cutset_lister.proofs.BySize.{none-most, sets_of-most, sizes-at}
use Rattle.cutset_lister.proofs.parts.next_part.Goals as goal

pub returns-then-ne-clause-found : goal.returns-then-ne-clause-found
returns-then-ne-clause-found c = λ store family sound sizes. (sizes-at store family 0 c.args.parts.now c.loop-k.k (record { position = 0 }) sizes (omega arith)).0

pub returns-then-ne-clause-size : goal.returns-then-ne-clause-size
returns-then-ne-clause-size c = λ store family sound sizes.
    let at = sizes-at store family 0 c.args.parts.now c.loop-k.k (record { position = 0 }) sizes (omega arith) in
    let most : greatest_size (family_of store (slice_index_or c.args.parts.now c.loop-k.k (record { position = 0 }))) ≤ 0 + c.loop-k.k = sets_of-most (0 + c.loop-k.k) family (family_of store (slice_index_or c.args.parts.now c.loop-k.k (record { position = 0 }))) at.1 in
    omega arith

pub returns-clause-size : goal.returns-clause-size
returns-clause-size c = λ store family sound sizes.
    let none : greatest_size (family_of store (record { position = 0 })) ≤ 0 = none-most store 0 0 sound refl in
    omega arith
