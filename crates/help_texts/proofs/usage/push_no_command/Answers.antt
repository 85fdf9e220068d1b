use Rattle.help_texts.proofs.usage.push_no_command.Goals as goal

pub returns : goal.returns
returns c = c.push_none_of.ensures
