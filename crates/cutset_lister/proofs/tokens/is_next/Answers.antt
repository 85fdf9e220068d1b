use Rattle.std.proofs.Common.{arith, rules, eqb-true, eq-eqb, length, nat_eq, slice_index_or}
use Rattle.cutset_lister.proofs.Scans.{is_next-at}
use Rattle.cutset_lister.proofs.tokens.is_next.Goals as goal

pub returns : goal.returns
returns c =
    is_next-at c.args.text.now c.args.name.now (omega arith) (λ e. absurd (omega arith)) (search rules) (nat_eq (slice_index_or c.args.text.now (length c.args.name.now) 0) 43)
    (eq-eqb (slice_index_or c.args.text.now (length c.args.name.now) 0) 43) (eqb-true (slice_index_or c.args.text.now (length c.args.name.now) 0) 43)
