use Rattle.std.proofs.Common.{[], ap, flat_map, ◌∙◌}
use Rattle.requirement_names.specs.Groups.{group_names}
use Rattle.requirement_names.specs.Wrong.{again_behind, noting, wrong_members, wrong_words}
use Rattle.requirement_names.proofs.Noting.{noted-four}
use Rattle.requirement_names.proofs.resolving.note_parts.Goals as goal

pub returns-clause-noted : goal.returns-clause-noted
returns-clause-noted c =
    let system = c.args.model.now in
    let groups = c.args.groups.now in
    let requirements = c.args.requirements.now in
    noted-four c.args.first.now c.of.new.first c.note_groups.new.first c.note_again.new.first c.note_requirements.new.first
    (again_behind (λ group. group.name) [] groups) (flat_map (wrong_members system) groups) (again_behind (λ requirement. requirement.name) [] requirements)
    (flat_map (wrong_words system (group_names groups)) requirements)
    c.in_ok-table.ensures.noted c.in_ok-note_groups.ensures c.in_ok-note_again.ensures
    (c.in_ok-note_requirements.ensures ∙ ap (λ names. noting c.note_again.new.first (flat_map (wrong_words system names) requirements)) (c.in_ok-table.ensures.names ∙ c.requires))
