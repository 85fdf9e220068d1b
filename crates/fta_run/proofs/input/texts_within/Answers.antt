use Rattle.std.proofs.Common.{◌≡◌, ◌≤◌, [], length, subst}
use Rattle.std.proofs.lemmas.List.Elements.{All-from_recursion}
use Rattle.fta_run.specs.Files.{most_bytes, too_long_from}
use Rattle.fta_run.proofs.Inputs.{short_of}
use Rattle.fta_run.proofs.input.texts_within.Goals as goal

pub invariant_of-result : goal.invariant_of-result
invariant_of-result c =
    let none = subst (λ read. too_long_from 0 read ≡ []) c.items.ensures.items c.in_ok-check_each.ensures in
    (c.requires, All-from_recursion (λ text. length text ≤ most_bytes) c.args.texts (short_of 0 c.args.texts none))
