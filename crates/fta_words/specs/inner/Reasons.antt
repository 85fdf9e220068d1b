-- What an answer without a request tells.
use Rattle.std.specs.Prelude.{ℕ, List}
use Rattle.fta_words.specs.Words.{GiveNoRequest}
use Rattle.fta_words.specs.declared.error.WordsFault.{WordsFault}
use Rattle.fta_words.specs.declared.error.WordsFault.TheVariants.{Usage, Memory}

-- usage tells that the words give no request, and want of memory tells nothing
abbrev pub TellsUsage : List (List ℕ) → List (List ℕ) → WordsFault → Type 0
TellsUsage reports words Usage = GiveNoRequest reports words
TellsUsage reports words Memory = Unit {0}
