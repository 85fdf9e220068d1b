use Rattle.model_facts.specs.Assembly.{universe_of}
use Rattle.model_facts.specs.Effects.{effects_of}
use Rattle.model_review.specs.Seen.{seen_of}
use Rattle.model_review.proofs.Saying.{nothing-hidden}
use Rattle.model_review.proofs.Written.{none-written}
use Rattle.model_review.proofs.laws.nothing_is_hidden.Goals as goal

pub returns-clause-lists : goal.returns-clause-lists
returns-clause-lists c assembly clear = nothing-hidden assembly (universe_of assembly) (effects_of assembly) clear

pub returns-clause-lines : goal.returns-clause-lines
returns-clause-lines c assembly reviewed reviews none =
    nothing-hidden assembly (universe_of assembly) (effects_of assembly) (none-written (seen_of assembly) reviewed reviews none)
