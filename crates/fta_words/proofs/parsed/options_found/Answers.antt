use Rattle.fta_words.proofs.parsed.options_found.Goals as goal

pub returns-in_default-2 : goal.returns-in_default-2
returns-in_default-2 c = λ given stand options say. c.in_default-2.not-Some options.chosen (c.in_ok-chosen.ensures.only given stand options.chosen say.chosen)
