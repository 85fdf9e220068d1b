use Rattle.std.proofs.Common.{◌≡◌, [], ◌∷◌, subst}
use Rattle.plain_values.specs.declared.refusal.Stop.TheVariants.{Refused}
use Rattle.noted_refusals.specs.Groups.{or_group}
use Rattle.noted_refusals.proofs.Laws.{told-here, told-next}
use Rattle.instantiator.specs.Refused.{instance_group}
use Rattle.instantiator.specs.Whole.{Instance, instance_of}
use Rattle.model_facts.specs.Assembly.{assembly_of, points_in}
use Rattle.propagation_links.specs.Refused.{links_group}
use Rattle.model_phases.specs.Groups.{kinds_group, root_group}
use Rattle.model_phases.proofs.GroupLaws.{instance-clear, kinds-clear, links-clear}
use Rattle.model_phases.proofs.ToldLaws.{First, FirstOf, answer-told, end-told}
use Rattle.phases.specs.inner.Meets.{IsMemory}
use Rattle.phases.proofs.Steps.{◌beyond◌, ends, exits}
use Rattle.model_phases.specs.Phases.{assembled}
use Rattle.model_phases.proofs.Made.{kinds_pass, kinds_stop, links_named, links_pass, links_stop, model_met}
use Rattle.model_phases.proofs.flat.assembled.Goals as goal

pub returns-in_err-kinds-clause-made : goal.returns-in_err-kinds-clause-made
returns-in_err-kinds-clause-made g c =
    let profile = c.args.profile in
    let packages = c.args.index.now in
    let root = c.args.root in
    exits IsMemory (λ made. made) (assembled g.M.FromAssembly.phase profile packages root) c.in_err-kinds.field-0.0 c.from_residual-in_err-kinds.result c.from_residual-in_err-kinds.ensures.1
    (c.in_ok-instance.ensures.tested beyond ends (kinds_stop profile packages root c.in_ok-instance.instance c.in_err-kinds.field-0.0 c.in_ok-instance.ensures.instance c.in_err-kinds.ensures.tested))

pub returns-in_err-links-clause-made : goal.returns-in_err-links-clause-made
returns-in_err-links-clause-made g c =
    let profile = c.args.profile in
    let packages = c.args.index.now in
    let root = c.args.root in
    let instance = c.in_ok-instance.instance in
    let made = c.in_ok-instance.ensures.instance in
    exits IsMemory (λ made. made) (assembled g.M.FromAssembly.phase profile packages root) c.in_err-links.field-0.0 c.from_residual-in_err-links.result c.from_residual-in_err-links.ensures.1
    (c.in_ok-instance.ensures.tested beyond kinds_pass profile packages root instance made c.in_ok-kinds.ensures.tested
    beyond ends (links_stop profile packages root instance c.in_ok-kinds.kinds.models c.in_err-links.field-0.0 made c.in_ok-kinds.ensures.models c.in_err-links.ensures.tested))

pub returns-clause-made : goal.returns-clause-made
returns-clause-made g c =
    model_met g.M.FromAssembly.phase c.args.profile c.args.index.now c.args.root c.in_ok-instance.instance c.in_ok-kinds.kinds.types c.in_ok-kinds.kinds.models c.in_ok-links.links c.noted_made.result c.in_ok-instance.ensures.instance c.in_ok-kinds.ensures.types c.in_ok-kinds.ensures.models c.in_ok-links.ensures.links
    c.in_ok-instance.ensures.tested c.in_ok-kinds.ensures.tested c.in_ok-links.ensures.tested c.noted_made.ensures.made

pub returns-in_err-instance-clause-told : goal.returns-in_err-instance-clause-told
returns-in_err-instance-clause-told g c =
    let profile = c.args.profile in
    let packages = c.args.index.now in
    let root = c.args.root in
    let components = instance_group packages root in
    let kinds = kinds_group profile (instance_of packages root) in
    let links = links_group profile (instance_of packages root) (points_in (assembly_of profile packages root).models) in
    let all = root_group profile packages root in
    let noted = c.instance_at.new.refusals in
    end-told (First components noted) (FirstOf all noted) c.in_err-instance.field-0.0 c.from_residual.result
    (λ refusal told. told-here all (refusal ∷ []) noted (Refused refusal) (told-here components (or_group kinds links) noted (Refused refusal) told)) c.from_residual.ensures.1 c.in_err-instance.ensures.told

pub returns-in_err-kinds-clause-told : goal.returns-in_err-kinds-clause-told
returns-in_err-kinds-clause-told g c =
    let profile = c.args.profile in
    let packages = c.args.index.now in
    let root = c.args.root in
    let components = instance_group packages root in
    let kinds = kinds_group profile (instance_of packages root) in
    let links = links_group profile (instance_of packages root) (points_in (assembly_of profile packages root).models) in
    let all = root_group profile packages root in
    let noted = c.kinds_of.new.refusals in
    let instance = c.in_ok-instance.instance in
    end-told (First (kinds_group profile instance) noted) (FirstOf all noted) c.in_err-kinds.field-0.0 c.from_residual-in_err-kinds.result
    (λ refusal told. told-here all (refusal ∷ []) noted (Refused refusal)
    (told-next components (or_group kinds links) noted (Refused refusal) (instance-clear packages root c.in_ok-instance.ensures.tested)
    (told-here kinds links noted (Refused refusal) (subst (λ (one : Instance). First (kinds_group profile one) noted refusal) c.in_ok-instance.ensures.instance told))))
    c.from_residual-in_err-kinds.ensures.1 c.in_err-kinds.ensures.told

pub returns-in_err-links-clause-told : goal.returns-in_err-links-clause-told
returns-in_err-links-clause-told g c =
    let profile = c.args.profile in
    let packages = c.args.index.now in
    let root = c.args.root in
    let components = instance_group packages root in
    let kinds = kinds_group profile (instance_of packages root) in
    let links = links_group profile (instance_of packages root) (points_in (assembly_of profile packages root).models) in
    let all = root_group profile packages root in
    let noted = c.links_between.new.refusals in
    let instance = c.in_ok-instance.instance in
    let models = c.in_ok-kinds.kinds.models in
    let made = c.in_ok-instance.ensures.instance in
    end-told (First (links_group profile instance (points_in models)) noted) (FirstOf all noted) c.in_err-links.field-0.0 c.from_residual-in_err-links.result
    (λ refusal told. told-here all (refusal ∷ []) noted (Refused refusal)
    (told-next components (or_group kinds links) noted (Refused refusal) (instance-clear packages root c.in_ok-instance.ensures.tested)
    (told-next kinds links noted (Refused refusal) (kinds-clear profile (instance_of packages root) (kinds_pass profile packages root instance made c.in_ok-kinds.ensures.tested))
    (subst (λ group. First group noted refusal) (links_named profile packages root instance models made c.in_ok-kinds.ensures.models) told))))
    c.from_residual-in_err-links.ensures.1 c.in_err-links.ensures.told

pub returns-clause-told : goal.returns-clause-told
returns-clause-told g c =
    let profile = c.args.profile in
    let packages = c.args.index.now in
    let root = c.args.root in
    let components = instance_group packages root in
    let kinds = kinds_group profile (instance_of packages root) in
    let links = links_group profile (instance_of packages root) (points_in (assembly_of profile packages root).models) in
    let all = root_group profile packages root in
    let noted = c.noted_made.new.refusals in
    let instance = c.in_ok-instance.instance in
    let models = c.in_ok-kinds.kinds.models in
    let made = c.in_ok-instance.ensures.instance in
    let none = instance-clear packages root c.in_ok-instance.ensures.tested in
    let kinds_none = kinds-clear profile (instance_of packages root) (kinds_pass profile packages root instance made c.in_ok-kinds.ensures.tested) in
    let links_none =
    links-clear profile (instance_of packages root) (points_in (assembly_of profile packages root).models) (links_pass profile packages root instance models made c.in_ok-kinds.ensures.models c.in_ok-links.ensures.tested) in
    let empty : all ≡ [] = λ i. or_group (none i) (or_group (kinds_none i) (links_none i)) in
    answer-told (FirstOf [] noted) (FirstOf all noted) c.noted_made.result (λ refusal told. told-next all (refusal ∷ []) noted (Refused refusal) empty told) c.noted_made.ensures.told
