use Rattle.std.proofs.Common.{◌≡◌, ℕ, List, ap, ◌∙◌, subst}
use Rattle.std.specs.Prelude.{IfOk}
use Rattle.plain_values.specs.Numbered.{numbered_from}
use Rattle.event_rates.specs.Unused.{unused_at, whole_names}
use Rattle.event_rates.specs.declared.unused.UnusedRate.{UnusedRate}
use Rattle.event_rates.specs.inner.Rated.{Rated}
use Rattle.event_rates.proofs.unused.unused_rates.Goals as goal

pub returns : goal.returns
returns c =
    let tables = c.in_ok-tables.tables in
    let events = c.args.events.now in
    let told : Rated → List (List (List ℕ)) → List UnusedRate = λ its names. numbered_from (unused_at its.profile names its.instance) 0 its.instance.components in
    let names = c.in_ok-names.ensures ∙ c.items.ensures.items ∙ c.in_ok-all.ensures in
    subst (λ all. IfOk c.all_unused.result (λ rates. rates ≡ all)) (ap (told tables) names ∙ ap (λ (its : Rated). told its (whole_names its.profile its.instance events)) c.in_ok-tables.ensures) c.all_unused.ensures
