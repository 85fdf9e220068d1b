use Rattle.std.proofs.Common.{◌≤◌, length}
use Rattle.std.proofs.lemmas.List.Elements.{All-from_recursion}
use Rattle.fta_run.specs.Files.{most_bytes}
use Rattle.fta_run.proofs.Inputs.{short_of}
use Rattle.fta_run.proofs.few.check_limits.Goals as goal

pub returns-clause-short : goal.returns-clause-short
returns-clause-short c = All-from_recursion (λ text. length text ≤ most_bytes) c.args.texts.now (short_of 0 c.args.texts.now c.in_ok-check_each.ensures)
