use Rattle.std.proofs.Common.{arith}
use Rattle.zdd_families.proofs.Pairs.{both_same, both_first_empty, both_second_unit, both_second_empty, both_first_unit}
use Rattle.zdd_families.proofs.product.one_operand.Goals as goal

pub returns-then-a-b-clause-some : goal.returns-then-a-b-clause-some
returns-then-a-b-clause-some c =
    record { found = c.requires.a_in; apart = c.requires.a_apart; least = omega arith; same = both_same c.args.store.now c.args.a c.args.b c.laws.ensures c.if-a-b.true }

pub returns-then-a-eq0-clause-some : goal.returns-then-a-eq0-clause-some
returns-then-a-eq0-clause-some c =
    record { found = c.requires.a_in; apart = c.requires.a_apart; least = omega arith; same = both_first_empty c.args.store.now c.args.a c.args.b c.laws.ensures c.if-a-eq0.true }

pub returns-then-a-eq1-clause-some : goal.returns-then-a-eq1-clause-some
returns-then-a-eq1-clause-some c =
    record { found = c.requires.b_in; apart = c.requires.b_apart; least = omega arith; same = both_first_unit c.args.store.now c.args.a c.args.b c.laws.ensures c.if-a-eq1.true }

pub returns-then-b-eq0-clause-some : goal.returns-then-b-eq0-clause-some
returns-then-b-eq0-clause-some c =
    record { found = c.requires.b_in; apart = c.requires.b_apart; least = omega arith; same = both_second_empty c.args.store.now c.args.a c.args.b c.laws.ensures c.if-b-eq0.true }

pub returns-then-b-eq1-clause-some : goal.returns-then-b-eq1-clause-some
returns-then-b-eq1-clause-some c =
    record { found = c.requires.a_in; apart = c.requires.a_apart; least = omega arith; same = both_second_unit c.args.store.now c.args.a c.args.b c.laws.ensures c.if-b-eq1.true }
