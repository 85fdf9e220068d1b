use Rattle.std.proofs.Common.{◌∙◌}
use Rattle.clap.specs.Words.{found_of}
use Rattle.clap.proofs.WalkLemmas.{first_value-rows}
use Rattle.fta_words.proofs.parsed.value_in.Goals as goal

pub returns : goal.returns
returns c = λ given stand. c.bytes_of.ensures ∙ c.get_str.ensures ∙ first_value-rows (found_of c.args.matches.now) c.args.name.now ∙ stand.values c.args.name.now c.requires
