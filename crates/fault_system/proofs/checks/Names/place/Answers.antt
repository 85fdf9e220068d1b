use Rattle.std.proofs.Common.{ap, ◌∙◌, position}
use Rattle.plain_values.specs.Name.{is_same_text}
use Rattle.fault_system.proofs.NameTables.{position-keys}
use Rattle.fault_system.proofs.checks.Names.place.Goals as goal

pub returns-clause-place : goal.returns-clause-place
returns-clause-place c =
    c.get_index_of.ensures.index ∙ position-keys c.args.name.now c.self.inside.set.keys ∙ ap (position (λ other. is_same_text other c.args.name.now)) c.self.view_is
