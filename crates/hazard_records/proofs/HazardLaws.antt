-- The hazards of a model, with those of one component more.
use Rattle.std.proofs.Common.{◌≡◌, ◌<◌, ◌+◌, ℕ, List, [], ◌++◌, length, take, get_or, None, sym, ap, ◌∙◌}
use Rattle.std.proofs.lemmas.List.{get_or_default}
use Rattle.plain_values.specs.Numbered.{numbered_from}
use Rattle.package_index.proofs.Loops.{numbered-more}
use Rattle.instantiator.specs.declared.path.Component.{Component}
use Rattle.hazard_records.specs.Hazards.{Whole, component_hazards, site_hazards, site_of}
use Rattle.hazard_records.specs.declared.hazard.Hazard.{Hazard}

pub hazards-more : (model : Whole) (i : ℕ) → i < length model.instance.components → (before after : List Hazard)
    → before ≡ numbered_from (component_hazards model) 0 (take i model.instance.components) → after ≡ before ++ site_hazards (site_of model i)
    → after ≡ numbered_from (component_hazards model) 0 (take (i + 1) model.instance.components)
hazards-more model i within before after had adds =
    let all = model.instance.components in
    let none : Component = record { path = []; classifier = None } in
    let component : Component = get_or all i none in
    adds ∙ ap (λ front. front ++ site_hazards (site_of model i)) had ∙ sym (numbered-more (component_hazards model) all i component within (get_or_default all i none component within))
