use Rattle.std.proofs.Common.{subst, sym}
use Rattle.profiles.specs.declared.profile.Profile.{Profile}
use Rattle.propagation_links.specs.inner.Steps.{IsFurther}
use Rattle.propagation_links.proofs.further.Further.of.Goals as goal

pub returns-in-First-clause-are : goal.returns-in-First-clause-are
returns-in-First-clause-are c = subst (λ (profile : Profile). IsFurther profile c.args.tables.now c.none.result) (sym c.in-First.is) (c.none.ensures.are c.args.tables.now)
