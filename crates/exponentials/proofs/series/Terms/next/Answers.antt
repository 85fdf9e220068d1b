use Rattle.std.proofs.Common.{refl}
use Rattle.exponentials.proofs.Summing.{next_terms}
use Rattle.exponentials.proofs.Narrowing.{next_narrow}
use Rattle.exponentials.proofs.series.Terms.next.Goals as goal

pub returns-clause-terms : goal.returns-clause-terms
returns-clause-terms c n is are = next_terms c.args.whole n c.args.count c.args.x c.args.self _ is are c.next_term-term.ensures.next c.plus.ensures.sum refl

pub returns-clause-narrow : goal.returns-clause-narrow
returns-clause-narrow c n places units is few narrow small room are =
    next_narrow c.args.whole n c.args.count places units c.args.x c.args.self _ is few narrow small room are c.next_term-term.ensures.next c.plus.ensures.sum refl c.next_term-term.ensures.narrow c.plus.ensures.narrow
