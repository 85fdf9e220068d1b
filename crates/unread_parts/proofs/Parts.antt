-- What is told of an instance, with the parts of one component more.
use Rattle.std.proofs.Common.{◌≡◌, ◌<◌, ◌+◌, ℕ, List, [], ◌++◌, length, take, get_or, None, sym, ap, ◌∙◌}
use Rattle.std.proofs.lemmas.List.{get_or_default}
use Rattle.plain_values.specs.Numbered.{numbered_from}
use Rattle.package_index.proofs.Loops.{numbered-more}
use Rattle.instantiator.specs.declared.path.Component.{Component}
use Rattle.instantiator.specs.Whole.{Instance, effective_in}
use Rattle.unread_parts.specs.Unread.{told_of, told_parts}
use Rattle.unread_parts.specs.declared.unread.Part.{Part}
use Rattle.unread_parts.specs.declared.unread.What.{What}

pub parts-more : (what : What) (instance : Instance) (i : ℕ) → i < length instance.components → (before after : List Part)
    → before ≡ numbered_from (told_of what instance) 0 (take i instance.components) → after ≡ before ++ told_parts what instance.packages i (effective_in instance i)
    → after ≡ numbered_from (told_of what instance) 0 (take (i + 1) instance.components)
parts-more what instance i within before after had adds =
    let all = instance.components in
    let none : Component = record { path = []; classifier = None } in
    let component : Component = get_or all i none in
    adds ∙ ap (λ front. front ++ told_parts what instance.packages i (effective_in instance i)) had
    ∙ sym (numbered-more (told_of what instance) all i component within (get_or_default all i none component within))
