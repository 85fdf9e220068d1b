use Rattle.std.proofs.Common.{ap, sym, ◌∙◌}
use Rattle.std.specs.Option.{option_copied}
use Rattle.std.proofs.lemmas.Bool.{false≢true}
use Rattle.backward_slice.proofs.Reached.{marking-next, marking-past}
use Rattle.backward_slice.proofs.reaching.go_on.Goals as goal

pub returns-in_ok-visit-in-Some-clause-next : goal.returns-in_ok-visit-in-Some-clause-next
returns-in_ok-visit-in-Some-clause-next g c =
    marking-next c.args.system.now (g.W.Ways.ways c.args.ways.now) c.args.from.now c.args.number c.args.marking.now c.visit.new.marking c.requires
    (sym c.has.ensures ∙ c.if-has.true) c.in-Some.fact.now (sym c.in-Some.ensures) c.in_ok-visit-in-Some.ensures

pub returns-in_default-clause-next : goal.returns-in_default-clause-next
returns-in_default-clause-next g c =
    marking-past c.args.system.now (g.W.Ways.ways c.args.ways.now) c.args.from.now c.args.number _ _ _ c.requires
    (λ fact h at. false≢true (sym c.if-has.false ∙ c.has.ensures ∙ h))

pub returns-in_default-2-clause-next : goal.returns-in_default-2-clause-next
returns-in_default-2-clause-next g c =
    marking-past c.args.system.now (g.W.Ways.ways c.args.ways.now) c.args.from.now c.args.number _ _ _ c.requires
    (λ fact h at. cc (ap option_copied c.in_default.is, c.fact.ensures, at))
