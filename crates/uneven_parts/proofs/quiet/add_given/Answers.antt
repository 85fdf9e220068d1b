use Rattle.std.proofs.Common.{ap, sym, [], ◌++◌, ◌∙◌}
use Rattle.std.specs.Option.{option_map_or}
use Rattle.std.proofs.lemmas.Bool.{ltb-false}
use Rattle.std.proofs.lemmas.List.{append-nil}
use Rattle.std.proofs.lemmas.Option.{slice_get_past}
use Rattle.model_facts.specs.declared.keys.FactKey.{FactKey}
use Rattle.uneven_parts.specs.Quiet.{given_by}
use Rattle.uneven_parts.proofs.quiet.add_given.Goals as goal

pub returns-in-None : goal.returns-in-None
returns-in-None c =
    let keys = c.args.keys.now in
    let none = slice_get_past keys c.args.number (ltb-false _ _ (sym c.in-None.ensures.lookup.0)) in
    sym (ap (λ found. c.args.given.now ++ option_map_or (λ (key : FactKey). given_by keys key.owner key.kind c.args.fact.now.formula) found []) none ∙ append-nil c.args.given.now)
