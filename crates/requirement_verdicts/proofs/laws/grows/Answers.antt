use Rattle.requirement_verdicts.proofs.Growing.{bounded, excepted, fewer, shorter, smaller}
use Rattle.requirement_verdicts.proofs.laws.grows.Goals as goal

pub returns-clause-fewer : goal.returns-clause-fewer
returns-clause-fewer c = fewer

pub returns-clause-excepted : goal.returns-clause-excepted
returns-clause-excepted c = excepted

pub returns-clause-smaller : goal.returns-clause-smaller
returns-clause-smaller c = smaller

pub returns-clause-shorter : goal.returns-clause-shorter
returns-clause-shorter c = shorter

pub returns-clause-bounded : goal.returns-clause-bounded
returns-clause-bounded c = bounded
