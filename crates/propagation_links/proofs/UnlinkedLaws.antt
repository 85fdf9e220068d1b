-- The connections and user paths without a link, with those of one component more.
use Rattle.std.proofs.Common.{◌≡◌, ◌<◌, ◌+◌, ℕ, List, [], ◌++◌, length, take, get_or, None, sym, ap, ◌∙◌}
use Rattle.std.proofs.lemmas.List.{get_or_default}
use Rattle.plain_values.specs.Numbered.{numbered_from}
use Rattle.package_index.proofs.Loops.{numbered-more}
use Rattle.instantiator.specs.declared.path.Component.{Component}
use Rattle.instantiator.specs.Whole.{effective_in}
use Rattle.propagation_links.specs.Ends.{Pointed}
use Rattle.propagation_links.specs.Unlinked.{component_unlinked, unlinked_in}
use Rattle.propagation_links.specs.declared.unlinked.Unlinked.{Unlinked}

pub unlinked-more : (pointed : Pointed) (i : ℕ) → i < length pointed.instance.components → (before after : List Unlinked)
    → before ≡ numbered_from (component_unlinked pointed) 0 (take i pointed.instance.components) → after ≡ before ++ unlinked_in pointed i (effective_in pointed.instance i)
    → after ≡ numbered_from (component_unlinked pointed) 0 (take (i + 1) pointed.instance.components)
unlinked-more pointed i within before after had adds =
    let all = pointed.instance.components in
    let none : Component = record { path = []; classifier = None } in
    let component : Component = get_or all i none in
    adds ∙ ap (λ front. front ++ unlinked_in pointed i (effective_in pointed.instance i)) had ∙ sym (numbered-more (component_unlinked pointed) all i component within (get_or_default all i none component within))
