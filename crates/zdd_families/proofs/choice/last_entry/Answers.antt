use Rattle.std.proofs.Common.{◌<◌, length, arith}
use Rattle.zdd_families.proofs.Tables.{few_parts}
use Rattle.zdd_families.proofs.Ways.{answered}
use Rattle.zdd_families.proofs.choice.last_entry.Goals as goal

pub returns-then-k-parts : goal.returns-then-k-parts
returns-then-k-parts c =
    let some : 1 < length c.args.store.now = c.laws.ensures.some in
    answered (record { position = 0 }) (omega arith) (omega arith) (few_parts c.args.most c.args.store.now c.args.k c.args.parts.now c.laws.ensures c.if-k-parts.true)
