use Rattle.std.proofs.Common.{take}
use Rattle.fta_run.specs.Files.{AreTokens}
use Rattle.fta_run.proofs.input.tokens_of_texts.Given as goal

abbrev pub invariant-loop-file : goal.invariant-loop-file
invariant-loop-file l = AreTokens (take l.file l.texts) l.lists
