use Rattle.std.proofs.Common.{◌≡◌, Some, ap, option_map, subst, sym, ◌∙◌}
use Rattle.std.specs.Prelude.{IfErr, option_copied}
use Rattle.noted_refusals.specs.inner.Noted.{TellsFirst}
use Rattle.instantiator.specs.Effectives.{effective_of}
use Rattle.instantiator.specs.Whole.{Instance, classifier_at}
use Rattle.propagation_links.specs.Refused.{refusals_in}
use Rattle.propagation_links.proofs.LinkLaws.{effective-is}
use Rattle.propagation_links.proofs.all.add_component.Goals as goal

pub returns-in-Some-clause-told : goal.returns-in-Some-clause-told
returns-in-Some-clause-told c =
    let pointed = c.args.pointed.now in
    let number = c.args.number in
    let effective = c.in-Some.effective.now in
    let there = sym (ap option_copied c.in-Some.is) ∙ c.effective.ensures in
    let same = effective-is pointed number effective (subst (λ (its : Instance). Some effective ≡ option_map (effective_of its.packages) (classifier_at its number)) c.instance.ensures there) in
    subst (λ its. IfErr c.add_effective.result (TellsFirst (refusals_in pointed number its) c.add_effective.new.refusals)) same c.add_effective.ensures.told
