use Rattle.requirement_lines.proofs.judging.all_judged.Goals as goal

pub each_judged-requires-clause-known : goal.each_judged-requires-clause-known
each_judged-requires-clause-known c = record { always = c.in_ok-always.ensures; perhaps = c.in_ok-perhaps.ensures }
